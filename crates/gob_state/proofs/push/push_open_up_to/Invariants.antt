use Rattle.std.proofs.Common.{◌≤◌, ◌-◌, drop, length}
use Rattle.gob_state.specs.Written.{OpensPushed}
use Rattle.gob_state.proofs.push.push_open_up_to.Given as goal

abbrev pub invariant-loop-k : goal.invariant-loop-k
invariant-loop-k l = record {
  pushed : OpensPushed l.fn.at l.fn.into.items (drop l.fn.from l.fn.open) l.into.items (drop l.k l.fn.open);
  within : l.k ≤ length l.fn.open;
}

abbrev pub decreases-loop-k : goal.decreases-loop-k
decreases-loop-k l = length l.fn.open - l.k
