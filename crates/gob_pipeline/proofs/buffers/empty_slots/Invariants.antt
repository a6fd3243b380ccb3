use Rattle.std.proofs.Common.{◌≡◌, ◌≤◌, ◌-◌, map, vec_len}
use Rattle.gob_pipeline.specs.Made.{no_places}
use Rattle.gob_pipeline.proofs.buffers.empty_slots.Given as goal

abbrev pub invariant-slots : goal.invariant-slots
invariant-slots l = record {
  few : vec_len l.slots ≤ l.count;
  made : map (λ s. s.items) l.slots.items ≡ no_places (vec_len l.slots);
}

abbrev pub decreases-slots : goal.decreases-slots
decreases-slots l = l.count - vec_len l.slots
