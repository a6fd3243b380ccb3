use Rattle.std.proofs.Common.{◌≡◌, length, map, sym, ap, ◌∙◌, arith, get_or}
use Rattle.std.proofs.lemmas.List.{length-map}
use Rattle.gob_pipeline.specs.Made.{emptied_table}
use Rattle.gob_pipeline.proofs.Fronts.{map_front, front_all, refilled}
use Rattle.gob_pipeline.proofs.Slots.{slot_step}
use Rattle.gob_pipeline.proofs.buffers.clear_slots.Goals as goal

pub loop-slot-preserved : goal.loop-slot-preserved
loop-slot-preserved c =
    let vector = get_or c.loop-slot.slots c.loop-slot.slot-index c.slot-item.result in
    slot_step (λ v. v.items) c.args.slots.now c.loop-slot.slots c.loop-slot.slot-index c.slot-item.result _
    c.loop-slot.invariant
    (refilled vector.len c.clear_slot.new.slot vector.items (omega arith) ∙ c.clear_slot.ensures
    ∙ ap emptied_table c.as_mut_slice.ensures.value)
    (omega arith)

pub returns : goal.returns
returns c =
    let tables = map (λ v. v.items) c.args.slots.now in
    let all : c.loop-slot.slot-index ≡ length c.args.slots.now = omega arith in
    c.loop-slot.invariant ∙ ap (λ n. map_front emptied_table n tables)
    (all ∙ sym (length-map c.args.slots.now (λ v. v.items)))
    ∙ front_all emptied_table tables
