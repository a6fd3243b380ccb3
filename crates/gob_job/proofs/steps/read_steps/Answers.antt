use Rattle.std.proofs.Common.{List, arith}
use Rattle.gob_plan.specs.declared.steps.StepSpec.{StepSpec}
use Rattle.gob_job.proofs.Due.{takes_handed, takes_same}
use Rattle.gob_job.proofs.StepLists.{steps_step, steps_fault, steps_end}
use Rattle.gob_job.proofs.steps.read_steps.Goals as goal

pub returns-in_err-step : goal.returns-in_err-step
returns-in_err-step c =
    takes_handed _ _ _ _ c.from_residual-in_err-step.ensures.1
    (takes_same (λ (x : StepSpec). x) (λ (x : List StepSpec). x) _ _ _
    (λ r is. steps_fault c.loop-element.steps c.loop-element.left c.args.elements.now c.loop-element.element-index _ r
    (omega arith) c.loop-element.invariant (rw c.as_slice.ensures at is))
    c.in_err-step.ensures)

pub loop-element-preserved : goal.loop-element-preserved
loop-element-preserved c =
    steps_step c.loop-element.steps _ c.in_ok-step.step c.loop-element.left _ c.args.elements.now
    c.loop-element.element-index _ (omega arith) c.loop-element.invariant
    (rw c.as_slice.ensures at c.in_ok-step.ensures) (rw c.as_slice-in-loop-element.ensures at c.in_ok-left-2.ensures)
    c.in_ok-push.ensures.ok

pub returns : goal.returns
returns c = steps_end c.loop-element.steps c.loop-element.left c.args.elements.now c.loop-element.element-index
    (omega arith) c.loop-element.invariant
