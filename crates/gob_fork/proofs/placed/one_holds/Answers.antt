use Rattle.std.proofs.Common.{get_or, ap, ◌∙◌, arith}
use Rattle.gob_plan.specs.declared.checks.TestSpec.{TestSpec}
use Rattle.gob_rowcheck.specs.Places.{stands_at}
use Rattle.gob_rowcheck.proofs.Standing.{stands_there}
use Rattle.gob_fork.proofs.placed.one_holds.Goals as goal

pub bounds-places-index : goal.bounds-places-index
bounds-places-index c =
    let at = stands_there (λ (t : TestSpec). t.column) c.args.tests.now c.args.columns.now c.args.places.now
    c.loop-test.test-index c.test-item.result c.requires.stand c.loop-test-test.true c.test-item.is in
    let there = at.there in
    let same = c.loop-test.invariant.place in
    omega (arith, there, same)

pub holds_at-requires-clause-stands : goal.holds_at-requires-clause-stands
holds_at-requires-clause-stands c =
    let at = stands_there (λ (t : TestSpec). t.column) c.args.tests.now c.args.columns.now c.args.places.now
    c.loop-test.test-index c.test-item.result c.requires.stand c.loop-test-test.true c.test-item.is in
    ap (λ i. stands_at c.test-item.result.column c.args.columns.now (get_or c.args.places.now i 0))
    c.loop-test.invariant.place ∙ at.stands 0
