use Rattle.std.proofs.Common.{length}
use Rattle.gob_state.specs.Versions.{version_of}
use Rattle.gob_state.proofs.PartLemmas.{SomeParts}
use Rattle.gob_state.proofs.parts.take_parts.Given as goal

abbrev pub invariant-loop-alloc : goal.invariant-loop-alloc
invariant-loop-alloc l = SomeParts (version_of l.fn.version) l.fn.pipelines l.fn.text l.text l.table

abbrev pub decreases-loop-alloc : goal.decreases-loop-alloc
decreases-loop-alloc l = length l.text
