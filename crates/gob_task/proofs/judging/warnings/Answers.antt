use Rattle.std.proofs.Common.{refl, arith}
use Rattle.gob_task.proofs.Warnings.{last_policy, one_more_policy}
use Rattle.gob_task.proofs.judging.warnings.Goals as goal

pub overflow_add-index : goal.overflow_add-index
overflow_add-index c = omega (arith, c.requires.few, c.loop-policy.invariant.place)

pub loop-policy-preserved : goal.loop-policy-preserved
loop-policy-preserved c = record {
  place = omega (arith, c.loop-policy.invariant.place);
  list = one_more_policy c.args.policies.now c.loop-policy.policy-index c.loop-policy.index _ _ c.args.counts.now
      c.loop-policy.list c.add_warning.new.list c.loop-policy.invariant.place (omega arith) refl
      c.loop-policy.invariant.list c.in_ok-add_warning.ensures;
}

pub returns : goal.returns
returns c =
    last_policy c.args.policies.now c.loop-policy.policy-index c.args.counts.now c.loop-policy.list (omega arith)
    c.loop-policy.invariant.list
