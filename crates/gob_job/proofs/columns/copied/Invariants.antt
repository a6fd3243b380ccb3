use Rattle.std.proofs.Common.{◌≡◌, ◌++◌, drop}
use Rattle.gob_job.proofs.columns.copied.Given as goal

abbrev pub invariant-loop-column : goal.invariant-loop-column
invariant-loop-column l = l.copies ++ drop l.column-index l.fn.columns ≡ l.fn.columns
