use Rattle.std.proofs.Common.{◌≡◌, drop}
use Rattle.gob_meaning.specs.Steps.{first_missing}
use Rattle.gob_job.proofs.columns.first_missing.Given as goal

abbrev pub invariant-loop-name : goal.invariant-loop-name
invariant-loop-name l = first_missing (drop l.name-index l.fn.names) l.fn.columns ≡ first_missing l.fn.names
    l.fn.columns
