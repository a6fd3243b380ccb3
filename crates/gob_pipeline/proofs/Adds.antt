-- Bytes that are added to the buffer of a target.
use Rattle.std.proofs.Common.{◌≡◌, ℕ, zero, suc, ◌+◌, ◌<◌, Bool, true, false, cond, ◌&&◌, nat_eq, List, [], ◌∷◌, ◌++◌}
use Rattle.std.proofs.Common.{length}
use Rattle.std.proofs.Common.{map, get_or, set, refl, sym, ap, ap₂, ◌∙◌, subst, arith, None, Some, append-nil}
use Rattle.std.proofs.lemmas.Bool.Decides.{nat_tests}
use Rattle.std.proofs.lemmas.Bool.{and_parts, and_from, eqb-true}
use Rattle.std.specs.declared.cmp.Ordering.{Ordering}
use Rattle.std.specs.declared.cmp.Ordering.TheVariants.{Less, Equal, Greater}
use Rattle.std.specs.Option.{unwrap_or}
use Rattle.std.specs.List.{slice_get, list_all}
use Rattle.std.specs.Str.{bytes_eq}
use Rattle.gob_bytes.specs.Tables.{Table, at_name, names_of, name_cmp, with_name, IsInByteOrder}
use Rattle.gob_bytes.proofs.Tables.{at-with_name, rising-with_name, same_name}
use Rattle.gob_meaning.specs.Items.{Target, out, err, bad}
use Rattle.gob_meaning.specs.Fold.{Delivery, sent_to, same_target}
use Rattle.gob_pipeline.specs.Made.{Buffers, AddsTo, AreEmpty, AreSlotsFrom, IsSlot, buffer_of, slot_of, place_in}
use Rattle.gob_pipeline.specs.Made.{is_place}
use Rattle.gob_pipeline.specs.Made.{is_placed, no_places}
use Rattle.gob_pipeline.specs.Taking.{with_bytes_at}
use Rattle.gob_pipeline.proofs.Targets.{same_by_slot}
use Rattle.gob_pipeline.proofs.Slots.{slot_at}
use Rattle.std.proofs.lemmas.List.{length-map, map-set}
use Rattle.std.proofs.Math.ListN.{get_or-map}
use Rattle.std.proofs.Math.Seq.{map-set_same}

-- ---- a slot with more bytes

all-with_name : (p : List ℕ → Bool) (t : Table (List ℕ)) (name x : List ℕ) → list_all p (names_of t) ≡ true
    → p name ≡ true → list_all p (names_of (with_name t name x)) ≡ true
all-with_name p [] name x all here = and_from _ _ here refl
all-with_name p (e ∷ es) name x all here =
    cases (name_cmp name e.0) refl (all-with_name p es name x (and_parts (p e.0) _ all).1 here)
  where
    cases : (o : Ordering) → name_cmp name e.0 ≡ o → list_all p (names_of (with_name es name x)) ≡ true
        → list_all p (names_of (with_name (e ∷ es) name x)) ≡ true
    cases Less is later = rw is (and_from _ _ here all)
    cases Equal is later = rw is (and_from _ _ here (and_parts (p e.0) _ all).1)
    cases Greater is later = rw is (and_from _ _ (and_parts (p e.0) _ all).0 later)

bad_place : (t : Target) → slot_of t ≡ 0 → nat_eq (length (place_in t)) 0 ≡ true
bad_place (out b p) e = absurd (omega (arith, e))
bad_place (err b p) e = absurd (omega (arith, e))
bad_place bad e = refl

placed_place : (t : Target) → is_placed t ≡ true → is_place (place_in t) ≡ true
placed_place (out b p) h = h
placed_place (err b p) h = h
placed_place bad h = refl

slot_more : (t : Target) (table : Table (List ℕ)) (bytes : List ℕ) → is_placed t ≡ true → IsSlot (slot_of t) table
    → IsSlot (slot_of t) (with_bytes_at table (place_in t) bytes)
slot_more t table bytes placed s =
    let x = unwrap_or (at_name table (place_in t)) [] ++ bytes in
    record {
      rising = rising-with_name table (place_in t) x s.rising;
      places = all-with_name is_place table (place_in t) x s.places (placed_place t placed);
      bad_lines = λ h. all-with_name (λ place. nat_eq (length place) 0) table (place_in t) x (s.bad_lines h)
          (bad_place t h);
    }

slots_set : (start n : ℕ) (b : Buffers) (table : Table (List ℕ)) → AreSlotsFrom start b → IsSlot (start + n) table
    → AreSlotsFrom start (set b n table)
slots_set start n [] table all s = tt
slots_set start zero (t ∷ ts) table all s =
    let e : start + zero ≡ start = omega arith in (subst (λ k. IsSlot k table) e s, all.1)
slots_set start (suc n) (t ∷ ts) table all s =
    let e : start + suc n ≡ suc start + n = omega arith in
    (all.0, slots_set (suc start) n ts table all.1 (subst (λ k. IsSlot k table) e s))

pub slots_more : (b : Buffers) (t : Target) (table : Table (List ℕ)) (bytes : List ℕ) → AreSlotsFrom 0 b
    → is_placed t ≡ true → IsSlot (slot_of t) table
    → AreSlotsFrom 0 (set b (slot_of t) (with_bytes_at table (place_in t) bytes))
slots_more b t table bytes all placed s =
    let e : slot_of t ≡ 0 + slot_of t = omega arith in
    let more = with_bytes_at table (place_in t) bytes in
    slots_set 0 (slot_of t) b more all (subst (λ k. IsSlot k more) e (slot_more t table bytes placed s))

-- ---- what the buffers have then

abbrev bytes_at : Buffers → ℕ → List ℕ → List ℕ
bytes_at b k place = unwrap_or (at_name (unwrap_or (slice_get b k) []) place) []

same_next : (k n : ℕ) → nat_eq (suc k) (suc n) ≡ nat_eq k n
same_next k n = cases (nat_eq k n) refl
  where
    cases : (v : Bool) → nat_eq k n ≡ v → nat_eq (suc k) (suc n) ≡ v
    cases true e = grind (arith, nat_tests)
    cases false e = grind (arith, nat_tests)

got-set : (b : Buffers) (n : ℕ) (table : Table (List ℕ)) (k : ℕ) (place : List ℕ) → n < length b
    → bytes_at (set b n table) k place ≡ cond (nat_eq k n) (unwrap_or (at_name table place) []) (bytes_at b k place)
got-set [] n table k place lt = absurd (omega arith)
got-set (t ∷ ts) zero table zero place lt = refl
got-set (t ∷ ts) zero table (suc k) place lt =
    let other : nat_eq (suc k) 0 ≡ false = grind (arith, nat_tests) in
    sym (ap (λ v. cond v (unwrap_or (at_name table place) []) (bytes_at ts k place)) other)
got-set (t ∷ ts) (suc n) table zero place lt =
    let other : nat_eq 0 (suc n) ≡ false = grind (arith, nat_tests) in
    sym (ap (λ v. cond v (unwrap_or (at_name table place) []) (unwrap_or (at_name t place) [])) other)
got-set (t ∷ ts) (suc n) table (suc k) place lt =
    got-set ts n table k place (omega arith)
    ∙ ap (λ v. cond v (unwrap_or (at_name table place) []) (bytes_at ts k place)) (sym (same_next k n))

found : (b : Buffers) (n : ℕ) (d : Table (List ℕ)) → n < length b → unwrap_or (slice_get b n) [] ≡ get_or b n d
found [] n d lt = absurd (omega arith)
found (t ∷ ts) zero d lt = refl
found (t ∷ ts) (suc n) d lt = found ts n d (omega arith)

pub adds_one : (b : Buffers) (d : Target) (table : Table (List ℕ)) (bytes : List ℕ) → slot_of d < length b
    → unwrap_or (slice_get b (slot_of d)) [] ≡ table
    → AddsTo b (set b (slot_of d) (with_bytes_at table (place_in d) bytes)) (record { target = d; bytes = bytes } ∷ [])
unfolding sent_to
adds_one b d table bytes lt is t =
    got-set b (slot_of d) (with_bytes_at table (place_in d) bytes) (slot_of t) (place_in t) lt
    ∙ ap (λ o. cond (nat_eq (slot_of t) (slot_of d)) (unwrap_or o []) (buffer_of b t))
    (at-with_name table (place_in d) (unwrap_or (at_name table (place_in d)) [] ++ bytes) (place_in t))
    ∙ cases (nat_eq (slot_of t) (slot_of d)) refl (bytes_eq (place_in t) (place_in d)) refl
    ∙ ap (λ v. buffer_of b t ++ (cond v bytes [] ++ [])) (sym (same_by_slot t d))
  where
    cases : (s : Bool) → nat_eq (slot_of t) (slot_of d) ≡ s → (p : Bool) → bytes_eq (place_in t) (place_in d) ≡ p
        → cond s (unwrap_or (cond p (Some (unwrap_or (at_name table (place_in d)) [] ++ bytes))
        (at_name table (place_in t))) []) (buffer_of b t)
        ≡ buffer_of b t ++ (cond (s && p) bytes [] ++ [])
    cases false s_is p p_is = sym (append-nil (buffer_of b t))
    cases true s_is false p_is =
        let here : unwrap_or (slice_get b (slot_of t)) [] ≡ table =
        ap (λ n. unwrap_or (slice_get b n) []) (eqb-true (slot_of t) (slot_of d) s_is) ∙ is in
        ap (λ u. unwrap_or (at_name u (place_in t)) []) (sym here) ∙ sym (append-nil (buffer_of b t))
    cases true s_is true p_is =
        let here : unwrap_or (slice_get b (slot_of t)) [] ≡ table =
        ap (λ n. unwrap_or (slice_get b n) []) (eqb-true (slot_of t) (slot_of d) s_is) ∙ is in
        ap₂ (λ x y. x ++ y)
        (ap₂ (λ u p. unwrap_or (at_name u p) []) (sym here) (sym (same_name (place_in t) (place_in d) p_is)))
        (sym (append-nil bytes))

-- ---- no places

pub none_more : (n : ℕ) → no_places n ++ [] ∷ [] ≡ no_places (suc n)
none_more zero = refl
none_more (suc n) = ap (λ b. [] ∷ b) (none_more n)

pub none_slots : (start n : ℕ) → AreSlotsFrom start (no_places n)
none_slots start zero = tt
none_slots start (suc n) = (record { rising = tt; places = refl; bad_lines = λ _. refl }, none_slots (suc start) n)

pub none_length : (n : ℕ) → length (no_places n) ≡ n
none_length zero = refl
none_length (suc n) = ap suc (none_length n)

none_at : (n k : ℕ) (place : List ℕ) → bytes_at (no_places n) k place ≡ []
none_at zero k place = refl
none_at (suc n) zero place = refl
none_at (suc n) (suc k) place = none_at n k place

pub none_empty : (n : ℕ) → AreEmpty (no_places n)
none_empty n t = none_at n (slot_of t) (place_in t)

-- ---- the buffer of one target, among vectors

-- the slot of a target, and its table
pub slot_found : {V : Type 0} (items : V → Table (List ℕ)) (vs : List V) (n : ℕ) (v : V)
    → AreSlotsFrom 0 (map items vs) → n < length (map items vs) → v ≡ get_or vs n v → IsSlot n (items v)
slot_found items vs n v all lt is =
    let within : n < length vs = subst (λ k. n < k) (length-map vs items) lt in
    let e : 0 + n ≡ n = omega arith in
    subst (λ w. IsSlot n (items w)) (sym is) (subst (λ k. IsSlot k (items (get_or vs n v))) e
    (slot_at items 0 n vs v all within))

pub vector_found : {V : Type 0} (items : V → Table (List ℕ)) (vs : List V) (n : ℕ) (v : V)
    → n < length (map items vs) → v ≡ get_or vs n v → unwrap_or (slice_get (map items vs) n) [] ≡ items v
vector_found items vs n v lt is =
    found (map items vs) n (items v) lt ∙ get_or-map items vs n v ∙ ap items (sym is)

-- a table that stays leaves all as it was
pub same_vector : {V : Type 0} (items : V → Table (List ℕ)) (vs : List V) (n : ℕ) (v w : V) → v ≡ get_or vs n v
    → items w ≡ items v → map items (set vs n w) ≡ map items vs
same_vector items vs n v w is same = map-set_same items vs n w v (same ∙ ap items is)
