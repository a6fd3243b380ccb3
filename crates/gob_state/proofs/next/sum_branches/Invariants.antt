use Rattle.std.proofs.Common.{◌≡◌, ◌++◌, drop}
use Rattle.gob_meaning.specs.Sums.{branch_sums}
use Rattle.gob_state.proofs.next.sum_branches.Given as goal

abbrev pub invariant-loop-i : goal.invariant-loop-i
invariant-loop-i l = l.sums ++ branch_sums (drop l.i l.fn.a) (drop l.i l.fn.b) ≡ branch_sums l.fn.a l.fn.b

abbrev pub invariant-loop-i-2 : goal.invariant-loop-i-2
invariant-loop-i-2 l = l.sums ++ drop l.i l.fn.b ≡ branch_sums l.fn.a l.fn.b
