use Rattle.std.proofs.Common.{◌≡◌, Some, None, IsSome, is_some, sym, ap, subst, ◌∙◌}
use Rattle.gob_device.specs.Disk.{Files, put}
use Rattle.gob_volume.specs.Maps.{map_of}
use Rattle.gob_volume.proofs.Tables.{put_elsewhere, put_there, renamed}
use Rattle.gob_volume.proofs.file_table.FileTable.rename.Goals as goal

pub unreachable-requires : goal.unreachable-requires
unreachable-requires c =
    let gone : map_of c.args.self.now c.args.from.now ≡ None =
    sym (put_elsewhere (map_of c.args.self.now) c.args.to.now c.args.from.now (Some c.new.result) c.requires.differ)
    ∙ sym (ap (λ (m : Files). m c.args.from.now) c.in_ok-put.ensures.ok) ∙ sym c.take.ensures.file ∙ c.in_default.is in
    let both = subst IsSome gone c.requires.there in cc

pub unreachable-requires-in-Err : goal.unreachable-requires-in-Err
unreachable-requires-in-Err c =
    let from = c.args.from.now in
    let to = c.args.to.now in
    let made : Files = put (map_of c.args.self.now) to (Some c.new.result) in
    let found : map_of c.take.new.self to ≡ Some c.new.result =
    ap (λ (m : Files). m to) (c.take.ensures.after ∙ ap (λ m. put m from None) c.in_ok-put.ensures.ok)
    ∙ put_elsewhere made from to None (λ same. c.requires.differ (sym same))
    ∙ put_there (map_of c.args.self.now) to (Some c.new.result) in
    let there = c.in-Err.ensures.there (ap is_some found) in cc

pub returns-clause-ok : goal.returns-clause-ok
returns-clause-ok c =
    let from = c.args.from.now in
    let to = c.args.to.now in
    let made = Some c.new.result in
    let stored = Some c.in-Some.stored in
    let file : map_of c.args.self.now from ≡ stored =
    sym (put_elsewhere (map_of c.args.self.now) to from made c.requires.differ)
    ∙ sym (ap (λ (m : Files). m from) c.in_ok-put.ensures.ok) ∙ sym c.take.ensures.file ∙ c.in-Some.is in
    c.in_default-put.ensures.ok
    ∙ ap (λ m. put m to stored) (c.take.ensures.after ∙ ap (λ m. put m from None) c.in_ok-put.ensures.ok)
    ∙ renamed (map_of c.args.self.now) from to made stored file
