use Rattle.gob_steps.specs.Building.{columns_behind_all}
use Rattle.gob_steps.proofs.Chains.{step_for}
use Rattle.gob_steps.proofs.chain.push_step.Goals as goal

pub returns-clause-ok : goal.returns-clause-ok
returns-clause-ok c =
    let here = columns_behind_all c.args.columns.now c.args.list.now.items in
    let step = c.in_ok-step.step in (
      step,
      step_for c.args.spec.now c.in_ok-spec.spec here c.last_columns.result.now step c.in_ok-spec.ensures
          c.last_columns.ensures c.in_ok-step.ensures.input c.in_ok-step.ensures.output c.in_ok-step.ensures.made,
      c.in_ok-push.ensures.items,
    )
