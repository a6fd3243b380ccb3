use Rattle.std.proofs.Common.{◌≡◌, ◌≤◌, ◌++◌, drop, length}
use Rattle.gob_state.specs.Written.{lines_of_ranges}
use Rattle.gob_state.proofs.push.push_ranges.Given as goal

abbrev pub invariant-loop-i : goal.invariant-loop-i
invariant-loop-i l = record {
  pushed : l.into.items ++ lines_of_ranges (drop l.i l.fn.done) (drop l.k l.fn.open)
      ≡ l.fn.into.items ++ lines_of_ranges l.fn.done l.fn.open;
  within : l.k ≤ length l.fn.open;
}
