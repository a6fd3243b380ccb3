use Rattle.gob_plan.proofs.Copies.{plan_copied}
use Rattle.gob_plan.proofs.plan.Plan.copy.Goals as goal

pub returns : goal.returns
returns c = plan_copied _ _ c.in_ok-clone.ensures.cases
