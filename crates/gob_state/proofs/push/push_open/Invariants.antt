use Rattle.std.proofs.Common.{◌≡◌, ◌++◌, [], drop}
use Rattle.gob_state.specs.Written.{lines_of_ranges}
use Rattle.gob_state.proofs.push.push_open.Given as goal

abbrev pub invariant-loop-i : goal.invariant-loop-i
invariant-loop-i l =
    l.into.items ++ lines_of_ranges [] (drop l.i l.fn.open) ≡ l.fn.into.items ++ lines_of_ranges [] l.fn.open
