use Rattle.std.proofs.Common.{◌≡◌, drop}
use Rattle.gob_plan.specs.Rows.{kind_of}
use Rattle.gob_job.proofs.columns.kind_of.Given as goal

abbrev pub invariant-loop-column : goal.invariant-loop-column
invariant-loop-column l = kind_of l.fn.name (drop l.column-index l.fn.columns) ≡ kind_of l.fn.name l.fn.columns
