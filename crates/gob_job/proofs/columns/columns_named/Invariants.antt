use Rattle.std.proofs.Common.{◌≡◌, ◌++◌, drop}
use Rattle.gob_meaning.specs.Steps.{columns_named}
use Rattle.gob_job.proofs.columns.columns_named.Given as goal

abbrev pub invariant-loop-name : goal.invariant-loop-name
invariant-loop-name l = l.named ++ columns_named (drop l.name-index l.fn.names) l.fn.columns ≡ columns_named l.fn.names
    l.fn.columns
