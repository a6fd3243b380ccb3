use Rattle.std.proofs.Common.{◌≤◌, ◌-◌, length}
use Rattle.gob_memory.specs.Places.{rank_of}
use Rattle.gob_memory.proofs.table.rank.Given as goal

abbrev pub invariant-loop-low : goal.invariant-loop-low
invariant-loop-low g l = (l.low ≤ rank_of l.table l.name) × (rank_of l.table l.name ≤ l.high)
    × (l.high ≤ length l.table)

abbrev pub decreases-loop-low : goal.decreases-loop-low
decreases-loop-low g l = l.high - l.low
