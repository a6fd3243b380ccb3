use Rattle.std.proofs.Common.{◌≡◌, ◌++◌, drop}
use Rattle.gob_job.specs.PipelineLines.{told_lines}
use Rattle.gob_job.proofs.pipeline.push_rows.Given as goal

abbrev pub invariant-loop-row : goal.invariant-loop-row
invariant-loop-row l =
    l.into ++ told_lines l.props l.branch (drop l.row-index l.rows) ≡ l.initial.into
    ++ told_lines l.props l.branch l.rows
