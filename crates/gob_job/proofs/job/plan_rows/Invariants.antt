use Rattle.std.proofs.Common.{◌≡◌, ◌++◌, drop, filter}
use Rattle.gob_jobs.specs.KeyTable.{tells_plan}
use Rattle.gob_job.specs.Rows.{rows_from}
use Rattle.gob_job.proofs.job.plan_rows.Given as goal

abbrev pub invariant-loop-row : goal.invariant-loop-row
invariant-loop-row l = rows_from l.some.items ++ filter tells_plan (rows_from (drop l.row-index l.fn.rows)) ≡ filter
    tells_plan (rows_from l.fn.rows)
