use Rattle.std.proofs.Common.{sym, ap, ◌∙◌, subst, arith, length, get_or, ◌≡◌, ◌+◌, ◌<◌}
use Rattle.gob_pipeline.specs.Made.{IsSlot}
use Rattle.gob_pipeline.proofs.Slots.{slot_at}
use Rattle.std.proofs.lemmas.List.{length-map}
use Rattle.gob_pipeline.proofs.buffers.TargetBuffers.slot.Goals as goal

pub returns-clause-proper : goal.returns-clause-proper
returns-clause-proper c =
    let vectors = c.self.inside.slots.items in
    let found = get_or vectors c.args.slot c.index.result.now in
    let within : c.args.slot < length vectors =
    omega (arith, ap length c.self.view_is, length-map vectors (λ v. v.items)) in
    let here : 0 + c.args.slot ≡ c.args.slot = omega arith in
    subst (IsSlot c.args.slot) (sym (c.as_slice.ensures.value ∙ ap (λ v. v.items) c.index.ensures))
    (subst (λ n. IsSlot n found.items) here
    (slot_at (λ v. v.items) 0 c.args.slot vectors c.index.result.now c.self.invariant within))
