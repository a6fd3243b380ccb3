use Rattle.std.proofs.Common.{◌≡◌, take}
use Rattle.gob_meaning.specs.Steps.{columns_named}
use Rattle.gob_steps.proofs.names.columns_named.Given as goal

abbrev pub invariant-loop-name : goal.invariant-loop-name
invariant-loop-name l = l.list ≡ columns_named (take l.name-index l.names) l.columns
