use Rattle.std.proofs.Common.{◌≡◌, true, false, length, ap, sym, ◌∙◌}
use Rattle.std.specs.List.{list_all}
use Rattle.gob_plan.specs.Rows.{conforms}
use Rattle.gob_steps.specs.Places.{are_apart, changes_one, is_below, makes_many, values_at}
use Rattle.gob_steps.proofs.Making.{needs_own, keeps_some, can_pick, own_at, kept_made, rename_step, set_step}
use Rattle.gob_steps.proofs.Making.{copy_step}
use Rattle.gob_steps.proofs.step.Step.one.Goals as goal

pub picked-requires-clause-below : goal.picked-requires-clause-below
unfolding conforms
picked-requires-clause-below c =
    let s = c.args.self.now in
    let row = c.args.row in
    ap (list_all (is_below (length row.values))) c.deref.ensures.value
    ∙ (can_pick s.spec s.columns s.after s.kept.items row.values s.proper s.told s.keeps c.requires.conforms).below

pub picked-requires-clause-apart : goal.picked-requires-clause-apart
unfolding conforms
picked-requires-clause-apart c =
    let s = c.args.self.now in
    let row = c.args.row in
    ap are_apart c.deref.ensures.value
    ∙ (can_pick s.spec s.columns s.after s.kept.items row.values s.proper s.told s.keeps c.requires.conforms).apart

pub picked-requires-in-Drop-clause-below : goal.picked-requires-in-Drop-clause-below
unfolding conforms
picked-requires-in-Drop-clause-below c =
    let s = c.args.self.now in
    let row = c.args.row in
    ap (list_all (is_below (length row.values))) c.deref-in-Drop.ensures.value
    ∙ (can_pick s.spec s.columns s.after s.kept.items row.values s.proper s.told s.keeps c.requires.conforms).below

pub picked-requires-in-Drop-clause-apart : goal.picked-requires-in-Drop-clause-apart
unfolding conforms
picked-requires-in-Drop-clause-apart c =
    let s = c.args.self.now in
    let row = c.args.row in
    ap are_apart c.deref-in-Drop.ensures.value
    ∙ (can_pick s.spec s.columns s.after s.kept.items row.values s.proper s.told s.keeps c.requires.conforms).apart

pub with_copy-requires : goal.with_copy-requires
unfolding conforms
with_copy-requires c =
    let s = c.args.self.now in
    (own_at s.spec s.columns s.after s.place c.args.row.values s.told (ap needs_own c.in-Copy.is) s.own
    c.requires.conforms).below

pub unreachable-requires : goal.unreachable-requires
unreachable-requires c = let both : true ≡ false = sym (ap makes_many c.in-Explode.is) ∙ c.requires.few in cc

pub returns-in_ok-picked-in-Keep-clause-ok : goal.returns-in_ok-picked-in-Keep-clause-ok
unfolding conforms
returns-in_ok-picked-in-Keep-clause-ok c =
    let s = c.args.self.now in
    let row = c.args.row in
    kept_made s.spec s.columns s.after s.kept.items row c.in_ok-picked-in-Keep.field-0 (ap keeps_some c.in-Keep.is)
    s.proper
    s.told s.keeps c.requires.conforms
    (c.in_ok-picked-in-Keep.ensures ∙ ap (λ ks. values_at ks row.values) c.deref.ensures.value)

pub returns-in_ok-picked-in-Drop-clause-ok : goal.returns-in_ok-picked-in-Drop-clause-ok
unfolding conforms
returns-in_ok-picked-in-Drop-clause-ok c =
    let s = c.args.self.now in
    let row = c.args.row in
    kept_made s.spec s.columns s.after s.kept.items row c.in_ok-picked-in-Drop.field-0 (ap keeps_some c.in-Drop.is)
    s.proper s.told s.keeps c.requires.conforms
    (c.in_ok-picked-in-Drop.ensures ∙ ap (λ ks. values_at ks row.values) c.deref-in-Drop.ensures.value)

pub returns-in_ok-with_set-in-Set-clause-ok : goal.returns-in_ok-with_set-in-Set-clause-ok
unfolding conforms
returns-in_ok-with_set-in-Set-clause-ok c =
    let s = c.args.self.now in
    set_step s.spec _ _ c.in-Set.value s.columns s.place c.args.row c.in_ok-with_set-in-Set.field-0 c.in-Set.is s.own
    c.requires.conforms c.in_ok-with_set-in-Set.ensures.set c.in_ok-with_set-in-Set.ensures.added

pub returns-in_ok-with_copy-in-Copy-clause-ok : goal.returns-in_ok-with_copy-in-Copy-clause-ok
unfolding conforms
returns-in_ok-with_copy-in-Copy-clause-ok c =
    let s = c.args.self.now in
    copy_step s.spec _ _ s.columns s.after s.place c.args.row c.in_ok-with_copy-in-Copy.field-0 c.in-Copy.is s.told
    s.own
    c.requires.conforms c.in_ok-with_copy-in-Copy.ensures

pub returns-in-Rename-clause-ok : goal.returns-in-Rename-clause-ok
returns-in-Rename-clause-ok c =
    let s = c.args.self.now in
    rename_step s.spec _ _ s.columns c.args.row c.in-Rename.is
