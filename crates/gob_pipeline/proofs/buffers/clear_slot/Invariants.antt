use Rattle.std.proofs.Common.{◌≡◌}
use Rattle.gob_pipeline.specs.Made.{emptied_place}
use Rattle.gob_pipeline.proofs.Fronts.{map_front}
use Rattle.gob_pipeline.proofs.buffers.clear_slot.Given as goal

abbrev pub invariant-loop-entry : goal.invariant-loop-entry
invariant-loop-entry l = l.slot ≡ map_front emptied_place l.entry-index l.fn.slot
