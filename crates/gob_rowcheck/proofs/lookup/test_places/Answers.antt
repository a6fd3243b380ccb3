use Rattle.std.proofs.Common.{map, take, ap, ◌∙◌, ◌+◌}
use Rattle.gob_plan.specs.declared.checks.TestSpec.{TestSpec}
use Rattle.gob_plan.specs.Tests.{test_fits}
use Rattle.gob_rowcheck.specs.Places.{stand_at}
use Rattle.gob_rowcheck.proofs.Standing.{left_pass, one_more_stands}
use Rattle.gob_rowcheck.proofs.lookup.test_places.Goals as goal

pub loop-test-preserved : goal.loop-test-preserved
loop-test-preserved c =
    let column = λ (t : TestSpec). t.column in
    let tests = c.args.tests.now in
    let i = c.loop-test.test-index in
    record {
      fit = left_pass (λ (t : TestSpec). test_fits t c.args.columns.now) tests i
          c.test-item.result c.loop-test-test.true c.loop-test.invariant.fit;
      stand = ap (stand_at (map column (take (i + 1) tests)) c.args.columns.now) c.in_ok-push.ensures.items
          ∙ one_more_stands column tests c.args.columns.now c.loop-test.places.items i c.test-item.result
          c.place_of.result c.loop-test.invariant.stand c.loop-test-test.true c.test-item.is c.place_of.ensures;
    }
