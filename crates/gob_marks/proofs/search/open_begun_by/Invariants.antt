use Rattle.std.proofs.Common.{◌≤◌, ◌-◌, length}
use Rattle.gob_marks.specs.Places.{begun_by}
use Rattle.gob_marks.proofs.search.open_begun_by.Given as goal

abbrev pub invariant-loop-low : goal.invariant-loop-low
invariant-loop-low l = (l.low ≤ begun_by l.at l.ranges) × (begun_by l.at l.ranges ≤ l.high) × (l.high ≤ length l.ranges)

abbrev pub decreases-loop-low : goal.decreases-loop-low
decreases-loop-low l = l.high - l.low
