use Rattle.std.proofs.Common.{◌≡◌, ◌++◌, drop}
use Rattle.gob_meaning.specs.Steps.{columns_but}
use Rattle.gob_job.proofs.columns.columns_but.Given as goal

abbrev pub invariant-loop-column : goal.invariant-loop-column
invariant-loop-column l = l.others ++ columns_but l.fn.names (drop l.column-index l.fn.columns) ≡ columns_but l.fn.names
    l.fn.columns
