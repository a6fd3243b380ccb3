use Rattle.std.proofs.Common.{◌≤◌, length, ap, ◌∙◌, arith}
use Rattle.gob_meaning.specs.Plans.{is_fitting}
use Rattle.gob_task.proofs.Begun.{few_branches}
use Rattle.gob_task.proofs.task.Bench.new.Goals as goal

pub overflow_cast-branches : goal.overflow_cast-branches
overflow_cast-branches c =
    let few : length c.plan.result.now.branches ≤ 8 =
    few_branches c.plan.result.now (ap is_fitting c.plan.ensures.plan ∙ c.plan.ensures.fitting) in
    omega (arith, few, c.len-branches.ensures)
