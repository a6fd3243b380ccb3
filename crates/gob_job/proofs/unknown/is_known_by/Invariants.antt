use Rattle.std.proofs.Common.{◌≡◌, drop}
use Rattle.std.specs.List.{flat_map, list_any}
use Rattle.std.specs.Str.{bytes_eq}
use Rattle.gob_jobs.specs.Reading.{keys_of_row}
use Rattle.gob_job.specs.Rows.{rows_from}
use Rattle.gob_job.proofs.unknown.is_known_by.Given as goal

abbrev pub invariant-loop-row : goal.invariant-loop-row
invariant-loop-row l = list_any (bytes_eq l.fn.key) (flat_map (keys_of_row l.fn.branches)
    (rows_from (drop l.row-index l.fn.rows))) ≡ list_any (bytes_eq l.fn.key)
    (flat_map (keys_of_row l.fn.branches) (rows_from l.fn.rows))
