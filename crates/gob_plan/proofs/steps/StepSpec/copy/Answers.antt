use Rattle.gob_plan.proofs.Copies.{step_copied}
use Rattle.gob_plan.proofs.steps.StepSpec.copy.Goals as goal

pub returns : goal.returns
returns c = step_copied _ _ c.in_ok-clone.ensures.cases
