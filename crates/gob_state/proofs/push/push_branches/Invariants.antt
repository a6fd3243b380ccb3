use Rattle.std.proofs.Common.{◌≡◌, ◌++◌, drop}
use Rattle.gob_state.specs.Written.{branch_lines_from}
use Rattle.gob_state.proofs.push.push_branches.Given as goal

abbrev pub invariant-loop-i : goal.invariant-loop-i
invariant-loop-i l =
    l.into.items ++ branch_lines_from l.i (drop l.i l.fn.branches) ≡ l.fn.into.items
    ++ branch_lines_from 0 l.fn.branches
