use Rattle.std.proofs.Common.{ap, ◌++◌, ◌∙◌, map}
use Rattle.gob_cut.specs.Rounds.{unit_of_range}
use Rattle.gob_cut.proofs.Listed.{owed_step}
use Rattle.gob_cut.proofs.owed.add_owed.Goals as goal

pub loop-place-preserved : goal.loop-place-preserved
loop-place-preserved c =
    let part = c.in-Some.part.now in
    owed_step c.args.kept.now c.args.marks.now c.loop-place.place (part, c.in-Some.marks.now) c.is_listed-listed.result
    c.args.units.now c.loop-place.units c.add_ranges.new.units
    c.in-Some.ensures c.is_listed-listed.ensures
    (c.in_ok-add_ranges.ensures ∙ ap (λ rs. c.loop-place.units ++ map (unit_of_range part c.is_listed-listed.result) rs)
    c.open_ranges.ensures.open_ranges)
    c.loop-place.invariant
