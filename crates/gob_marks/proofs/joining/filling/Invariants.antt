use Rattle.std.proofs.Common.{◌≡◌}
use Rattle.gob_marks.specs.Joined.{first_pipeline}
use Rattle.gob_marks.proofs.Walks.{Walked}
use Rattle.gob_marks.proofs.joining.filling.Given as goal

abbrev pub invariant-loop-at : goal.invariant-loop-at
invariant-loop-at l = Walked l.fn.range l.ranges l.at l.hi × (l.pipeline ≡ first_pipeline l.ranges)
