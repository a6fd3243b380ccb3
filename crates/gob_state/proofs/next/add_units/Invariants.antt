use Rattle.gob_state.proofs.NextLemmas.{Adding}
use Rattle.gob_state.proofs.next.add_units.Given as goal

abbrev pub invariant-loop-unit : goal.invariant-loop-unit
invariant-loop-unit l = Adding l.fn.marks l.marks l.fn.units l.unit-index
