use Rattle.std.proofs.Common.{◌≡◌, drop}
use Rattle.gob_jobs.specs.Reading.{read_rows}
use Rattle.gob_job.specs.LookUps.{look_of}
use Rattle.gob_job.specs.Readings.{reading_from}
use Rattle.gob_job.specs.Rows.{rows_from}
use Rattle.gob_job.proofs.reading.Reading.read_rows.Given as goal

abbrev pub invariant-loop-row : goal.invariant-loop-row
invariant-loop-row l = read_rows (look_of l.fn.values) (rows_from (drop l.row-index l.fn.rows)) l.fn.branch
    (reading_from l.self) ≡ read_rows (look_of l.fn.values) (rows_from l.fn.rows) l.fn.branch (reading_from l.fn.self)
