use Rattle.std.proofs.Common.{◌≡◌, ◌+◌, ◌++◌, [], ◌∷◌, List, ℕ, suc, map, vec_len, sym, ap, ap₂, ◌∙◌, arith}
use Rattle.std.proofs.lemmas.List.{map-append}
use Rattle.gob_bytes.specs.Tables.{Table}
use Rattle.gob_pipeline.specs.Made.{no_places}
use Rattle.gob_pipeline.proofs.Adds.{none_more}
use Rattle.gob_pipeline.proofs.buffers.empty_slots.Goals as goal

pub slots-preserved : goal.slots-preserved
slots-preserved c =
    let n = vec_len c.slots.slots in
    let next : suc n ≡ vec_len c.push.new.self = omega (arith, c.in_ok-push.ensures.len) in
    record {
      few = omega (arith, c.in_ok-push.ensures.len);
      made = ap (map (λ s. s.items)) c.in_ok-push.ensures.items
          ∙ map-append (λ s. s.items) c.slots.slots.items (c.new.result ∷ [])
          ∙ ap₂ (λ b (t : Table (List ℕ)). b ++ t ∷ []) c.slots.invariant.made c.new.ensures.items
          ∙ none_more n ∙ ap no_places next;
    }

pub returns : goal.returns
returns c =
    let all : vec_len c.slots.slots ≡ c.args.count = omega arith in
    c.slots.invariant.made ∙ ap no_places all
