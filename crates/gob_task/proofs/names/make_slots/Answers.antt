use Rattle.std.proofs.Common.{◌++◌, [], ◌∷◌, List, ℕ, suc, map, sym, ap, ap₂, ◌∙◌, append-nil}
use Rattle.std.proofs.lemmas.List.{append_assoc, map-append}
use Rattle.gob_bytes.specs.Tables.{Table}
use Rattle.gob_pipeline.specs.Made.{no_places}
use Rattle.gob_task.proofs.Spelled.{none_more}
use Rattle.gob_task.proofs.names.make_slots.Goals as goal

pub slots-init : goal.slots-init
slots-init c = (0, sym (append-nil (map (λ s. s.items) c.args.slots.now.items)))

pub slots-preserved : goal.slots-preserved
slots-preserved c =
    let n = c.slots.invariant.0 in
    let before = map (λ s. s.items) c.args.slots.now.items in (
      suc n,
      ap (map (λ s. s.items)) c.in_ok-push.ensures.items
          ∙ map-append (λ s. s.items) c.slots.slots.items (c.new.result ∷ [])
          ∙ ap₂ (λ b (t : Table (List ℕ)). b ++ t ∷ []) c.slots.invariant.1 c.new.ensures.items
          ∙ append_assoc before (no_places n) ([] ∷ [])
          ∙ ap (λ b. before ++ b) (none_more n),
    )
