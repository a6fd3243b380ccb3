use Rattle.std.proofs.Common.{arith}
use Rattle.gob_job.proofs.PipelineRows.{branch_told}
use Rattle.gob_job.proofs.pipeline.push_branches.Goals as goal

pub loop-branch-preserved : goal.loop-branch-preserved
loop-branch-preserved c =
    branch_told c.args.props.now c.loop-branch.into _ c.branch_rows.result.now c.loop-branch.branch c.args.branches
    (omega arith) c.loop-branch.invariant c.branch_rows.ensures c.in_ok-push_rows.ensures
