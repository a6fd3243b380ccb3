use Rattle.std.proofs.Common.{◌≡◌, ◌∷◌, ◌+◌, List, ℕ, ap, sym, subst, ◌∙◌, map, drop, arith, option_map, IfSome, IsSome}
use Rattle.std.specs.declared.option.Option.{Option}
use Rattle.gob_device.specs.Disk.{Along, Disk, OnlyAt, after_change, after_sync}
use Rattle.gob_device.specs.Names.{IsPathname}
use Rattle.gob_stage.proofs.Maps.{synced_only, told_map}
use Rattle.gob_stage.proofs.Syncs.{among_next, next_name, next_named, next_there, no_name, syncs_all, syncs_more}
use Rattle.gob_stage.proofs.attempt.sync_files.Goals as goal

pub sync-requires-clause-named : goal.sync-requires-clause-named
sync-requires-clause-named g c =
    let files = c.args.files.now in
    let i = c.loop-name.name-index in
    let e = c.loop-name-item.result in
    let next = next_name files i e (omega arith) c.loop-name-item.is in
    subst IsPathname (sym c.as_str.ensures) (next_named (map (λ e. e.1) files) i e.1 _ next
    c.loop-name.invariant.synced.named)

pub sync-requires-clause-there : goal.sync-requires-clause-there
sync-requires-clause-there g c =
    let files = c.args.files.now in
    let i = c.loop-name.name-index in
    let e = c.loop-name-item.result in
    let next = next_name files i e (omega arith) c.loop-name-item.is in
    subst (λ n. IfSome (g.V.Volume.disk c.loop-name.volume) (λ d. IsSome (d.files n))) (sym c.as_str.ensures)
    (next_there (map (λ e. e.1) files) i e.1 _ _ next c.loop-name.invariant.synced.there)

pub returns-in_err-sync-clause-only : goal.returns-in_err-sync-clause-only
returns-in_err-sync-clause-only g c =
    let files = c.args.files.now in
    let i = c.loop-name.name-index in
    let e = c.loop-name-item.result in
    let next = next_name files i e (omega arith) c.loop-name-item.is in
    among_next (map (λ e. e.1) files) i e.1 _ next c.loop-name.invariant.synced.only
    (subst (λ n. Along (OnlyAt n) (g.V.Volume.disk c.loop-name.volume) (g.V.Volume.disk c.sync.new.self))
    c.as_str.ensures (synced_only c.as_str.result.now c.sync.ensures.change))

pub loop-name-preserved : goal.loop-name-preserved
loop-name-preserved g c =
    let files = c.args.files.now in
    let i = c.loop-name.name-index in
    let e = c.loop-name-item.result in
    let now = g.V.Volume.disk c.loop-name.volume in
    let new = g.V.Volume.disk c.sync.new.self in
    let next = next_name files i e (omega arith) c.loop-name-item.is in
    record {
      synced = syncs_more (map (λ e. e.1) files) i e.1 _ now new next c.loop-name.invariant.synced
          (subst (λ n. new ≡ option_map (after_change (after_sync n)) now) c.as_str.ensures
          c.in_ok-sync.ensures.change.ok)
          (subst (λ n. Along (OnlyAt n) now new) c.as_str.ensures
          (synced_only c.as_str.result.now c.sync.ensures.change));
      later = omega (arith, c.loop-name.invariant.later, c.sync.ensures.cause.later);
    }

pub returns-clause-disk : goal.returns-clause-disk
returns-clause-disk g c =
    syncs_all (map (λ e. e.1) c.args.files.now) c.loop-name.name-index _ _
    (no_name c.args.files.now c.loop-name.name-index (omega arith)) c.loop-name.invariant.synced
