use Rattle.std.proofs.Common.{◌≡◌, drop}
use Rattle.gob_meaning.specs.Steps.{first_missing}
use Rattle.gob_steps.proofs.names.first_missing.Given as goal

abbrev pub invariant-loop-name : goal.invariant-loop-name
invariant-loop-name l = first_missing (drop l.name-index l.names) l.columns ≡ first_missing l.names l.columns
