use Rattle.gob_state.proofs.CountLemmas.{SomeBranches}
use Rattle.gob_state.proofs.counts.take_branches.Given as goal

abbrev pub invariant-loop-index : goal.invariant-loop-index
invariant-loop-index l = SomeBranches l.fn.text l.text l.branches l.index
