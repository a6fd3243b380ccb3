use Rattle.std.proofs.Common.{◌≡◌, ◌++◌, drop}
use Rattle.gob_meaning.specs.Steps.{with_new_name}
use Rattle.gob_job.proofs.columns.with_new_name.Given as goal

abbrev pub invariant-loop-column : goal.invariant-loop-column
invariant-loop-column l = l.named ++ with_new_name l.fn.from l.fn.to (drop l.column-index l.fn.columns) ≡ with_new_name
    l.fn.from l.fn.to l.fn.columns
