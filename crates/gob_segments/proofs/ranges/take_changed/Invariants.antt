use Rattle.std.proofs.Common.{length}
use Rattle.gob_state.specs.Versions.{version_of}
use Rattle.gob_segments.proofs.PutLines.{SomePut}
use Rattle.gob_segments.proofs.ranges.take_changed.Given as goal

abbrev pub invariant-loop-next : goal.invariant-loop-next
invariant-loop-next l = SomePut (version_of l.fn.version) l.fn.pipelines l.fn.before l.fn.text l.text l.marks l.from

abbrev pub decreases-loop-next : goal.decreases-loop-next
decreases-loop-next l = length l.text
