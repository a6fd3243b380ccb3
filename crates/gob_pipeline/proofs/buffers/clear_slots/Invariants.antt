use Rattle.std.proofs.Common.{◌≡◌, map}
use Rattle.gob_pipeline.specs.Made.{emptied_table}
use Rattle.gob_pipeline.proofs.Fronts.{map_front}
use Rattle.gob_pipeline.proofs.buffers.clear_slots.Given as goal

abbrev pub invariant-loop-slot : goal.invariant-loop-slot
invariant-loop-slot l =
    map (λ s. s.items) l.slots ≡ map_front emptied_table l.slot-index (map (λ s. s.items) l.fn.slots)
