use Rattle.std.proofs.Common.{◌≡◌, ◌-◌}
use Rattle.std.specs.List.{range_with_len}
use Rattle.gob_jobs.specs.Reading.{read_branches}
use Rattle.gob_job.specs.LookUps.{look_of}
use Rattle.gob_job.specs.Readings.{reading_from}
use Rattle.gob_job.specs.Rows.{rows_from}
use Rattle.gob_job.proofs.reading.Reading.read_branches.Given as goal

abbrev pub invariant-loop-branch : goal.invariant-loop-branch
invariant-loop-branch l = read_branches (look_of l.fn.values) (rows_from l.fn.rows)
    (range_with_len l.branch (l.fn.branches - l.branch)) (reading_from l.self) ≡ read_branches (look_of l.fn.values)
    (rows_from l.fn.rows) (range_with_len 0 l.fn.branches) (reading_from l.fn.self)
