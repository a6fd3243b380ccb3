-- The slots of buffers.
use Rattle.std.proofs.Common.{◌≡◌, ℕ, zero, suc, ◌+◌, ◌<◌, ◌≤◌, true, false, cond, List, [], ◌∷◌, length, map, get_or}
use Rattle.std.proofs.Common.{Some, nat_eq}
use Rattle.std.proofs.Common.{refl, sym, ap, ap₂, set, take, drop, ◌++◌, add-one, ◌∙◌, subst, arith}
use Rattle.std.specs.Option.{unwrap_or}
use Rattle.std.specs.List.{slice_get, list_all}
use Rattle.std.specs.Str.{bytes_eq}
use Rattle.gob_bytes.specs.Tables.{Table, at_name, names_of, IsInByteOrder}
use Rattle.gob_pipeline.proofs.Fronts.{map_front, front_kept, front_more, front_length}
use Rattle.std.proofs.lemmas.List.{length-map, map-set}
use Rattle.std.proofs.Math.ListN.{get_or-map}
use Rattle.gob_pipeline.specs.Made.{Buffers, AreEmpty, IsSlot, AreSlotsFrom, emptied_table, emptied_place, is_place}
use Rattle.gob_pipeline.specs.Made.{slot_of}
use Rattle.gob_pipeline.specs.Made.{place_in}

pub slot_at : {V : Type 0} (items : V → Table (List ℕ)) (start n : ℕ) (vs : List V) (d : V) →
    AreSlotsFrom start (map items vs) → n < length vs → IsSlot (start + n) (items (get_or vs n d))
slot_at items start n [] d all lt = absurd (omega arith)
slot_at items start zero (v ∷ vs) d all lt =
    let e : start ≡ start + zero = omega arith in
    subst (λ k. IsSlot k (items v)) e all.0
slot_at items start (suc n) (v ∷ vs) d all lt =
    let e : suc start + n ≡ start + suc n = omega arith in
    subst (λ k. IsSlot k (items (get_or vs n d))) e (slot_at items (suc start) n vs d all.1 (omega arith))

-- ---- without a byte

names_kept : (table : Table (List ℕ)) → names_of (emptied_table table) ≡ names_of table
names_kept [] = refl
names_kept (e ∷ es) = ap (λ ns. e.0 ∷ ns) (names_kept es)

slot_emptied : (n : ℕ) (table : Table (List ℕ)) → IsSlot n table → IsSlot n (emptied_table table)
slot_emptied n table s = let e = sym (names_kept table) in record {
  rising = subst IsInByteOrder e s.rising;
  places = subst (λ ns. list_all is_place ns ≡ true) e s.places;
  bad_lines = λ h. subst (λ ns. list_all (λ place. nat_eq (length place) 0) ns ≡ true) e (s.bad_lines h);
}

pub slots_emptied : (start : ℕ) (b : Buffers) → AreSlotsFrom start b → AreSlotsFrom start (map emptied_table b)
slots_emptied start [] all = tt
slots_emptied start (t ∷ ts) all = (slot_emptied start t all.0, slots_emptied (suc start) ts all.1)

empty_at : (table : Table (List ℕ)) (name : List ℕ) → unwrap_or (at_name (emptied_table table) name) [] ≡ []
empty_at [] name = refl
empty_at (e ∷ es) name =
    elim (bytes_eq name e.0) as (λ b. unwrap_or (cond b (Some []) (at_name (emptied_table es) name)) [] ≡ []) [
      | true ↦ refl
      | false ↦ empty_at es name
    ]

empty_slot : (b : Buffers) (n : ℕ) (name : List ℕ) →
    unwrap_or (at_name (unwrap_or (slice_get (map emptied_table b) n) []) name) [] ≡ []
empty_slot [] n name = refl
empty_slot (t ∷ ts) zero name = empty_at t name
empty_slot (t ∷ ts) (suc n) name = empty_slot ts n name

pub emptied_is_empty : (b : Buffers) → AreEmpty (map emptied_table b)
emptied_is_empty b t = empty_slot b (slot_of t) (place_in t)

-- one more place without a byte
pub place_step : (xs now : Table (List ℕ)) (i : ℕ) (d : List ℕ × List ℕ) (bytes : List ℕ) →
    now ≡ map_front emptied_place i xs → bytes ≡ [] → i < length now →
    set now i ((get_or now i d).0, bytes) ≡ map_front emptied_place (i + 1) xs
place_step xs now i d bytes is none lt =
    let short : i < length xs = subst (λ n. i < n) (ap length is ∙ front_length emptied_place i xs) lt in
    let same : get_or now i d ≡ get_or xs i d = ap (λ ys. get_or ys i d) is ∙ front_kept emptied_place i xs d short in
    rw add-one
    (ap₂ (λ ys (e : List ℕ × List ℕ). set ys i e) is (ap₂ (λ (e : List ℕ × List ℕ) (b : List ℕ). (e.0, b)) same none)
    ∙ front_more emptied_place i xs d short)

-- one more slot without a byte
pub slot_step : {V : Type 0} (items : V → Table (List ℕ)) (xs now : List V) (i : ℕ) (d v : V) →
    map items now ≡ map_front emptied_table i (map items xs) → items v ≡ emptied_table (items (get_or now i d))
    → i < length now →
    map items (set now i v) ≡ map_front emptied_table (i + 1) (map items xs)
slot_step items xs now i d v is none lt =
    let short : i < length (map items xs) =
    subst (λ n. i < n) (sym (length-map now items) ∙ ap length is ∙ front_length emptied_table i (map items xs)) lt in
    let got : items (get_or now i d) ≡ get_or (map items xs) i (items d) =
    sym (get_or-map items now i d) ∙ ap (λ ys. get_or ys i (items d)) is
    ∙ front_kept emptied_table i (map items xs) (items d) short in
    rw add-one
    (map-set items now i v ∙ ap₂ (λ ys (e : Table (List ℕ)). set ys i e) is (none ∙ ap emptied_table got)
    ∙ front_more emptied_table i (map items xs) (items d) short)
