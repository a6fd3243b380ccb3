use Rattle.std.proofs.Common.{length}
use Rattle.gob_state.specs.Versions.{version_of}
use Rattle.gob_state.proofs.RangeLemmas.{SomeRanges}
use Rattle.gob_state.proofs.ranges.take_ranges.Given as goal

abbrev pub invariant-loop-next : goal.invariant-loop-next
invariant-loop-next l = SomeRanges (version_of l.fn.version) l.fn.pipelines l.fn.text l.text l.marks

abbrev pub decreases-loop-next : goal.decreases-loop-next
decreases-loop-next l = length l.text
