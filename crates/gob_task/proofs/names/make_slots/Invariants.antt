use Rattle.std.proofs.Common.{◌≡◌, ◌+◌, ◌-◌, ◌++◌, ℕ, map, vec_len}
use Rattle.gob_pipeline.specs.Made.{no_places}
use Rattle.gob_task.proofs.names.make_slots.Given as goal

abbrev pub invariant-slots : goal.invariant-slots
invariant-slots l =
    (n : ℕ) × (map (λ s. s.items) l.slots.items ≡ map (λ s. s.items) l.fn.slots.items ++ no_places n)

abbrev pub decreases-slots : goal.decreases-slots
decreases-slots l = l.slot + 1 - vec_len l.slots
