use Rattle.gob_state.proofs.NextLemmas.{Finishing}
use Rattle.gob_state.proofs.next.finish_units.Given as goal

abbrev pub invariant-loop-i : goal.invariant-loop-i
invariant-loop-i l = Finishing l.fn.pipeline l.fn.policy l.fn.all l.fn.marks l.marks l.fn.units l.fn.results l.i
