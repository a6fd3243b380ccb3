use Rattle.std.proofs.Common.{map, take, ap, ◌∙◌, ◌+◌}
use Rattle.gob_plan.specs.declared.plan.PolicySpec.{PolicySpec}
use Rattle.gob_plan.specs.Tests.{test_fits}
use Rattle.gob_rowcheck.specs.Places.{stand_at}
use Rattle.gob_rowcheck.proofs.Standing.{left_pass, one_more_stands}
use Rattle.gob_rowcheck.proofs.lookup.policy_places.Goals as goal

pub loop-policy-preserved : goal.loop-policy-preserved
loop-policy-preserved c =
    let column = λ (p : PolicySpec). p.test.column in
    let policies = c.args.policies.now in
    let i = c.loop-policy.policy-index in
    record {
      fit = left_pass (λ (p : PolicySpec). test_fits p.test c.args.columns.now) policies i
          c.policy-item.result c.loop-policy-test.true c.loop-policy.invariant.fit;
      stand = ap (stand_at (map column (take (i + 1) policies)) c.args.columns.now) c.in_ok-push.ensures.items
          ∙ one_more_stands column policies c.args.columns.now c.loop-policy.places.items i c.policy-item.result
          c.place_of.result c.loop-policy.invariant.stand c.loop-policy-test.true c.policy-item.is c.place_of.ensures;
    }
