use Rattle.std.proofs.Common.{length}
use Rattle.gob_state.specs.Versions.{version_of}
use Rattle.gob_segments.proofs.Parted.{SomeChanges}
use Rattle.gob_segments.proofs.parts.take_changes.Given as goal

abbrev pub invariant-loop-alloc : goal.invariant-loop-alloc
invariant-loop-alloc l =
    SomeChanges (version_of l.fn.version) l.fn.pipelines l.fn.before l.fn.text l.text l.table l.last

abbrev pub decreases-loop-alloc : goal.decreases-loop-alloc
decreases-loop-alloc l = length l.text
