use Rattle.gob_plan.proofs.Copies.{branch_copied}
use Rattle.gob_plan.proofs.plan.BranchSpec.copy.Goals as goal

pub returns : goal.returns
returns c = branch_copied _ _ c.in_ok-clone.ensures.cases
