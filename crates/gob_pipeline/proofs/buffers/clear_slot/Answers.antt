use Rattle.std.proofs.Common.{◌≡◌, length, ap, ◌∙◌, arith}
use Rattle.gob_pipeline.specs.Made.{emptied_place}
use Rattle.gob_pipeline.proofs.Fronts.{map_front, front_all}
use Rattle.gob_pipeline.proofs.Slots.{place_step}
use Rattle.gob_pipeline.proofs.buffers.clear_slot.Goals as goal

pub loop-entry-preserved : goal.loop-entry-preserved
loop-entry-preserved c =
    place_step c.args.slot.now c.loop-entry.slot c.loop-entry.entry-index c.entry-item.result c.clear_bytes.new.bytes
    c.loop-entry.invariant c.clear_bytes.ensures (omega arith)

pub returns : goal.returns
returns c =
    let all : c.loop-entry.entry-index ≡ length c.args.slot.now = omega arith in
    c.loop-entry.invariant ∙ ap (λ n. map_front emptied_place n c.args.slot.now) all
    ∙ front_all emptied_place c.args.slot.now
