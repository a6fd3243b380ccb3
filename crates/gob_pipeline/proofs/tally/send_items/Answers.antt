use Rattle.std.proofs.Common.{◌≡◌, List, true, flat_map, length, refl, sym, subst, take, ◌∙◌}
use Rattle.gob_branch.specs.ItemSpans.{item_value}
use Rattle.gob_meaning.specs.Fold.{Delivery, delivery_of}
use Rattle.gob_pipeline.specs.Made.{AddsTo}
use Rattle.gob_pipeline.specs.Taking.{item_fits}
use Rattle.gob_pipeline.proofs.Cuts.{adds_nothing, adds_both}
use Rattle.gob_pipeline.proofs.Sent.{passes_at, flat_more}
use Rattle.gob_pipeline.proofs.tally.send_items.Goals as goal

pub loop-place-init : goal.loop-place-init
loop-place-init c = record { slots = refl; added = adds_nothing c.args.buffers.now }

pub send_item-requires : goal.send_item-requires
send_item-requires c =
    let x = item_value c.get.result in
    record {
      fit = subst (λ n. item_fits n x ≡ true) (sym c.loop-place.invariant.slots)
          (passes_at (item_fits (length c.args.buffers.now)) c.args.items.now c.loop-place.place x c.requires.fit
          c.get.ensures);
    }

pub loop-place-preserved : goal.loop-place-preserved
loop-place-preserved c =
    let x = item_value c.get.result in
    let items = c.args.items.now in
    let before = c.args.buffers.now in
    let after = c.send_item.new.buffers in
    record {
      slots = c.send_item.ensures.slots ∙ c.loop-place.invariant.slots;
      added = subst (λ (given : List Delivery). AddsTo before after given)
          (flat_more delivery_of items c.loop-place.place x c.get.ensures)
          (adds_both before c.loop-place.buffers after (flat_map delivery_of (take c.loop-place.place items))
          (delivery_of x) c.loop-place.invariant.added c.in_ok-send_item.ensures.ok);
    }
