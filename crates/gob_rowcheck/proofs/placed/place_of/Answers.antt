use Rattle.gob_plan.specs.Tests.{test_fits}
use Rattle.gob_rowcheck.proofs.Places.{told_place, told_none, fits_none}
use Rattle.gob_rowcheck.proofs.placed.place_of.Goals as goal

pub unreachable-requires : goal.unreachable-requires
unfolding test_fits
unreachable-requires c =
    let name = c.args.test.now.column in
    fits_none c.args.test.now.check name c.args.columns.now
    (told_none _ name c.args.columns.now c.as_str.ensures c.in-None.ensures) c.requires

pub returns : goal.returns
returns c = told_place _ c.args.test.now.column c.args.columns.now c.in-Some.place c.as_str.ensures c.in-Some.ensures
