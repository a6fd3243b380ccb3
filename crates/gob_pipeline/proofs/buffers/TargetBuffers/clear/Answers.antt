use Rattle.std.proofs.Common.{◌≡◌, map, sym, ap, ◌∙◌, subst, arith}
use Rattle.gob_pipeline.specs.Made.{AreEmpty, AreSlots, emptied_table}
use Rattle.gob_pipeline.proofs.Fronts.{refilled}
use Rattle.gob_pipeline.proofs.Slots.{slots_emptied, emptied_is_empty}
use Rattle.gob_pipeline.proofs.buffers.TargetBuffers.clear.Goals as goal

pub invariant_of-self : goal.invariant_of-self
invariant_of-self c =
    let back = refilled c.self.inside.slots.len c.clear_slots.new.slots c.self.inside.slots.items (omega arith) in
    subst AreSlots (sym (ap (map (λ v. v.items)) back ∙ c.clear_slots.ensures
    ∙ ap (λ vs. map emptied_table (map (λ v. v.items) vs)) c.as_mut_slice.ensures.value))
    (slots_emptied 0 _ c.self.invariant)

pub returns-clause-empty : goal.returns-clause-empty
returns-clause-empty c =
    let back = refilled c.self.inside.slots.len c.clear_slots.new.slots c.self.inside.slots.items (omega arith) in
    subst AreEmpty (sym (ap (map (λ v. v.items)) back ∙ c.clear_slots.ensures
    ∙ ap (λ vs. map emptied_table (map (λ v. v.items) vs)) c.as_mut_slice.ensures.value))
    (emptied_is_empty _)
