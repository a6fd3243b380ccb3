use Rattle.std.proofs.Common.{ap₂, ◌∙◌, arith}
use Rattle.gob_plan.specs.declared.checks.TestSpec.{TestSpec}
use Rattle.gob_rowcheck.specs.Places.{columns_tested, stand_at}
use Rattle.gob_rowcheck.proofs.Standing.{as_many_places, front_stands}
use Rattle.gob_fork.proofs.placed.one_holds_before.Goals as goal

pub split_at-requires-2 : goal.split_at-requires-2
split_at-requires-2 c =
    let many = as_many_places (λ (t : TestSpec). t.column) c.args.tests.now c.args.columns.now c.args.places.now
    c.requires.stand in
    let least = c.min-count.ensures in
    omega (arith, many, least)

pub one_holds-requires-clause-stand : goal.one_holds-requires-clause-stand
one_holds-requires-clause-stand c =
    ap₂ (λ ts ps. stand_at (columns_tested ts) c.args.columns.now ps) c.split_at.ensures.front
    c.split_at-2.ensures.front
    ∙ front_stands (λ (t : TestSpec). t.column) c.args.tests.now c.args.columns.now c.args.places.now c.min-count.result
    c.requires.stand
