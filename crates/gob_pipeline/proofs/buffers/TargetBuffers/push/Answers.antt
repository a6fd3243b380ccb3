use Rattle.std.proofs.Common.{◌≡◌, ◌<◌, ℕ, List, [], ◌∷◌, get_or, set, map, length, sym, ap, ap₂, ◌∙◌, subst}
use Rattle.std.proofs.lemmas.List.{map-set}
use Rattle.gob_bytes.specs.Tables.{IsInByteOrder, Table, names_of}
use Rattle.gob_meaning.specs.Items.{Target}
use Rattle.gob_meaning.specs.Fold.{Delivery}
use Rattle.gob_pipeline.specs.Made.{Buffers, AddsTo, AreSlots, IsSlot, is_placed, slot_of, place_in, target_value}
use Rattle.gob_pipeline.specs.Taking.{with_bytes_at}
use Rattle.gob_pipeline.proofs.Adds.{slot_found, vector_found, same_vector, slots_more, adds_one}
use Rattle.gob_pipeline.proofs.buffers.TargetBuffers.push.Goals as goal

pub add_at-requires : goal.add_at-requires
add_at-requires c =
    let vectors = c.self.inside.slots.items in
    let d = target_value c.args.target in
    let there = subst (λ (b : Buffers). slot_of d < length b) (sym c.self.view_is) c.requires.there in
    let within = subst (λ n. n < length (map (λ v. v.items) vectors)) (sym c.slot_of-slot.ensures) there in
    (slot_found (λ v. v.items) vectors c.slot_of-slot.result c.index_mut-table.result.now c.self.invariant within
    c.index_mut-table.ensures.value).rising

pub invariant_of-self : goal.invariant_of-self
invariant_of-self c =
    subst AreSlots
    (sym (same_vector (λ v. v.items) c.self.inside.slots.items c.slot_of-slot.result c.index_mut-table.result.now
    c.add_at.new.table c.index_mut-table.ensures.value c.in_err-add_at.ensures.err))
    c.self.invariant

pub invariant_of-self-2 : goal.invariant_of-self-2
invariant_of-self-2 c =
    let vectors = c.self.inside.slots.items in
    let tables = map (λ v. v.items) vectors in
    let d = target_value c.args.target in
    let bytes = c.args.bytes.now in
    let table = c.index_mut-table.result.now.items in
    let there = subst (λ (b : Buffers). slot_of d < length b) (sym c.self.view_is) c.requires.there in
    let s = slot_found (λ v. v.items) vectors (slot_of d) c.index_mut-table.result.now c.self.invariant there
    (subst (λ n. c.index_mut-table.result.now ≡ get_or vectors n c.index_mut-table.result.now) c.slot_of-slot.ensures
    c.index_mut-table.ensures.value) in
    subst AreSlots
    (sym (map-set (λ v. v.items) vectors c.slot_of-slot.result c.add_at.new.table
    ∙ ap₂ (λ n (t : Table (List ℕ)). set tables n t) c.slot_of-slot.ensures
    (c.in_ok-add_at.ensures.ok ∙ ap (λ p. with_bytes_at table p bytes) c.place_of.ensures)))
    (slots_more tables d table bytes c.self.invariant c.requires.placed s)

pub returns-clause-ok : goal.returns-clause-ok
returns-clause-ok c =
    let vectors = c.self.inside.slots.items in
    let tables = map (λ v. v.items) vectors in
    let d = target_value c.args.target in
    let bytes = c.args.bytes.now in
    let table = c.index_mut-table.result.now.items in
    let there = subst (λ (b : Buffers). slot_of d < length b) (sym c.self.view_is) c.requires.there in
    let given : List Delivery = record { target = d; bytes = bytes } ∷ [] in
    let is = vector_found (λ v. v.items) vectors (slot_of d) c.index_mut-table.result.now there
    (subst (λ n. c.index_mut-table.result.now ≡ get_or vectors n c.index_mut-table.result.now) c.slot_of-slot.ensures
    c.index_mut-table.ensures.value) in
    let after = map (λ v. v.items) (set vectors c.slot_of-slot.result c.add_at.new.table) in
    subst (λ (b : Buffers). AddsTo b after given) c.self.view_is
    (subst (λ (b : Buffers). AddsTo tables b given)
    (sym (map-set (λ v. v.items) vectors c.slot_of-slot.result c.add_at.new.table
    ∙ ap₂ (λ n (t : Table (List ℕ)). set tables n t) c.slot_of-slot.ensures
    (c.in_ok-add_at.ensures.ok ∙ ap (λ p. with_bytes_at table p bytes) c.place_of.ensures)))
    (adds_one tables d table bytes there is))
