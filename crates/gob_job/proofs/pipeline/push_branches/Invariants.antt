use Rattle.std.proofs.Common.{◌≡◌, ◌-◌, ◌++◌}
use Rattle.std.specs.List.{range_with_len}
use Rattle.gob_job.specs.PipelineLines.{pipeline_branch_lines}
use Rattle.gob_job.proofs.pipeline.push_branches.Given as goal

abbrev pub invariant-loop-branch : goal.invariant-loop-branch
invariant-loop-branch l =
    l.into ++ pipeline_branch_lines l.props (range_with_len l.branch (l.branches - l.branch))
    ≡ l.initial.into ++ pipeline_branch_lines l.props (range_with_len 0 l.branches)
