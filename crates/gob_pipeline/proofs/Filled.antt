-- What is in the buffers, target by target.
use Rattle.std.proofs.Common.{◌≡◌, ◌≢◌, ℕ, zero, suc, ◌+◌, ◌<◌, ◌≤◌, Bool, true, false, cond, not, ◌&&◌, nat_eq, nat_lt}
use Rattle.std.proofs.Common.{nat_le}
use Rattle.std.proofs.Common.{List, [], ◌∷◌, ◌++◌, length, map, refl, sym, ap, ap₂, ◌∙◌, subst, arith, None, Some}
use Rattle.std.proofs.Common.{append-nil, flat_map}
use Rattle.std.proofs.lemmas.Bool.{and_parts, and_from, lt-ltb, le-leb, ltb-true, leb-true, eqb-true, eq-eqb}
use Rattle.std.proofs.lemmas.Bool.Decides.{nat_tests}
use Rattle.std.proofs.lemmas.List.Folds.{list_all-append}
use Rattle.std.specs.Option.{unwrap_or}
use Rattle.std.specs.List.{slice_get, list_all, enumerate_from}
use Rattle.std.specs.Str.{bytes_eq}
use Rattle.gob_bytes.specs.Tables.{Table, at_name, names_of, name_cmp, IsInByteOrder}
use Rattle.gob_bytes.proofs.Tables.{same_name, two_names, less_apart, less_then, none_below, rising_tail}
use Rattle.gob_meaning.specs.Items.{Target}
use Rattle.gob_meaning.specs.Fold.{Delivery, sent_to, same_target}
use Rattle.gob_meaning.proofs.Joins.{sent-append}
use Rattle.gob_pipeline.specs.Made.{Buffers, AreSlotsFrom, AreSlots, IsSlot, buffer_of, slot_of, place_in, target_in}
use Rattle.gob_pipeline.specs.Made.{filled_targets, filled_place, filled_slot, is_placed, is_place, AreEmpty, AddsTo}
use Rattle.gob_pipeline.specs.Laws.{all_apart, has_bytes, IsFilled, FilledBuffersAreSent, PiecesFillBuffers}
use Rattle.gob_pipeline.proofs.Targets.{slot_in, place_in_slot, placed_in_slot, same_in_slot, HasPlace}

-- ---- one slot

abbrev AreProper : ℕ → Table (List ℕ) → Type 0
AreProper n [] = Unit {0}
AreProper n (e ∷ es) = HasPlace n e.0 × (is_place e.0 ≡ true) × AreProper n es

no_bytes : (place : List ℕ) → nat_eq (length place) 0 ≡ true → place ≡ []
no_bytes [] h = refl
no_bytes (b ∷ bs) h = let e : suc (length bs) ≡ 0 = eqb-true (suc (length bs)) 0 h in absurd (omega (arith, e))

proper_slot : (n : ℕ) (table : Table (List ℕ)) → list_all is_place (names_of table) ≡ true
    → (n ≡ 0 → list_all (λ place. nat_eq (length place) 0) (names_of table) ≡ true) → AreProper n table
proper_slot n [] places bad_lines = tt
proper_slot n (e ∷ es) places bad_lines =
    let here = and_parts (is_place e.0) (list_all is_place (names_of es)) places in (
      (λ h. no_bytes e.0 (and_parts (nat_eq (length e.0) 0) _ (bad_lines h)).0),
      here.0,
      proper_slot n es here.1 (λ h. (and_parts (nat_eq (length e.0) 0) _ (bad_lines h)).1),
    )

cond_nothing : (b : Bool) (x : List ℕ) → cond b x x ≡ x
cond_nothing true x = refl
cond_nothing false x = refl

nothing : (t : Target) → sent_to t [] ≡ []
unfolding sent_to
nothing t = refl

one_sent : (t : Target) (n : ℕ) (place bytes : List ℕ) → HasPlace n place →
    sent_to t (filled_place n (place, bytes)) ≡ cond (nat_eq (slot_of t) n && bytes_eq (place_in t) place) bytes []
unfolding sent_to
one_sent t n place [] h = sym (cond_nothing (nat_eq (slot_of t) n && bytes_eq (place_in t) place) [])
one_sent t n place (b ∷ bs) h = append-nil (cond (same_target t (target_in n place)) (b ∷ bs) [])
    ∙ ap (λ v. cond v (b ∷ bs) []) (same_in_slot t n place h)

-- what a slot sends to a target
slot_sent : (t : Target) (n : ℕ) (table : Table (List ℕ)) → IsInByteOrder (names_of table) → AreProper n table →
    sent_to t (flat_map (filled_place n) table)
    ≡ cond (nat_eq (slot_of t) n) (unwrap_or (at_name table (place_in t)) []) []
slot_sent t n [] rising proper = nothing t ∙ sym (cond_nothing (nat_eq (slot_of t) n) [])
slot_sent t n (e ∷ es) rising proper =
    sent-append t (filled_place n e) (flat_map (filled_place n) es)
    ∙ ap₂ (λ x y. x ++ y) (one_sent t n e.0 e.1 proper.0)
    (slot_sent t n es (rising_tail e.0 (names_of es) rising) proper.2)
    ∙ cases (nat_eq (slot_of t) n) (bytes_eq (place_in t) e.0) refl
  where
    gone : bytes_eq (place_in t) e.0 ≡ true → at_name es (place_in t) ≡ None
    gone same = ap (at_name es) (same_name (place_in t) e.0 same) ∙ none_below es e.0 rising

    cases : (s b : Bool) → bytes_eq (place_in t) e.0 ≡ b →
        cond (s && b) e.1 [] ++ cond s (unwrap_or (at_name es (place_in t)) []) []
        ≡ cond s (unwrap_or (cond b (Some e.1) (at_name es (place_in t))) []) []
    cases false b is = refl
    cases true false is = refl
    cases true true is = ap (λ o. e.1 ++ unwrap_or o []) (gone is) ∙ append-nil e.1

-- ---- all slots

abbrev all_from : ℕ → Buffers → List Delivery
all_from n buffers = flat_map filled_slot (enumerate_from n buffers)

no_slot : (t : Target) (n : ℕ) (x : List ℕ) → slot_of t ≢ n → cond (nat_eq (slot_of t) n) x [] ≡ []
no_slot t n x other = ap (λ v. cond v x []) (apart (slot_of t) n other)
  where
    apart : (m n : ℕ) → m ≢ n → nat_eq m n ≡ false
    apart m n e = grind (arith, nat_tests)

table_sent : (t : Target) (n : ℕ) (table : Table (List ℕ)) → IsSlot n table →
    sent_to t (filled_slot (n, table)) ≡ cond (nat_eq (slot_of t) n) (unwrap_or (at_name table (place_in t)) []) []
table_sent t n table s = slot_sent t n table s.rising (proper_slot n table s.places s.bad_lines)

sent_below : (t : Target) (n : ℕ) (buffers : Buffers) → slot_of t < n → AreSlotsFrom n buffers →
    sent_to t (all_from n buffers) ≡ []
sent_below t n [] below slots = nothing t
sent_below t n (table ∷ tables) below slots =
    let later : sent_to t (all_from (n + 1) tables) ≡ [] =
    sent_below t (n + 1) tables (omega arith) (next slots.1) in
    sent-append t (filled_slot (n, table)) (all_from (n + 1) tables)
    ∙ ap₂ (λ x y. x ++ y) (table_sent t n table slots.0
    ∙ no_slot t n (unwrap_or (at_name table (place_in t)) []) (λ e. absurd (omega (arith, e)))) later
  where
    next : AreSlotsFrom (suc n) tables → AreSlotsFrom (n + 1) tables
    next h = let e : suc n ≡ n + 1 = omega arith in subst (λ k. AreSlotsFrom k tables) e h

sent_at : (t : Target) (n k : ℕ) (buffers : Buffers) → slot_of t ≡ n + k → AreSlotsFrom n buffers →
    sent_to t (all_from n buffers) ≡ unwrap_or (at_name (unwrap_or (slice_get buffers k) []) (place_in t)) []
sent_at t n k [] at slots = nothing t
sent_at t n zero (table ∷ tables) at slots =
    let here : slot_of t ≡ n = omega (arith, at) in
    let x = unwrap_or (at_name table (place_in t)) [] in
    sent-append t (filled_slot (n, table)) (all_from (n + 1) tables)
    ∙ ap₂ (λ x y. x ++ y)
    (table_sent t n table slots.0 ∙ ap (λ v. cond v x []) (ap (λ m. nat_eq m n) here ∙ eq-eqb n n refl))
    (sent_below t (n + 1) tables (omega (arith, here)) (next slots.1))
    ∙ append-nil x
  where
    next : AreSlotsFrom (suc n) tables → AreSlotsFrom (n + 1) tables
    next h = let e : suc n ≡ n + 1 = omega arith in subst (λ k. AreSlotsFrom k tables) e h
sent_at t n (suc k) (table ∷ tables) at slots =
    sent-append t (filled_slot (n, table)) (all_from (n + 1) tables)
    ∙ ap₂ (λ x y. x ++ y) (table_sent t n table slots.0
    ∙ no_slot t n (unwrap_or (at_name table (place_in t)) []) (λ e. absurd (omega (arith, e, at))))
    (sent_at t (n + 1) k tables (omega (arith, at)) (next slots.1))
  where
    next : AreSlotsFrom (suc n) tables → AreSlotsFrom (n + 1) tables
    next h = let e : suc n ≡ n + 1 = omega arith in subst (λ k. AreSlotsFrom k tables) e h

pub filled_sent : (buffers : Buffers) → AreSlots buffers → (t : Target)
    → sent_to t (filled_targets buffers) ≡ buffer_of buffers t
unfolding filled_targets
filled_sent buffers slots t = sent_at t 0 (slot_of t) buffers (omega arith) slots

-- ---- tests of what is there

filled_pass : (p : Delivery → Bool) (n : ℕ) (table : Table (List ℕ)) → AreProper n table
    → ((place : List ℕ) (b : ℕ) (bs : List ℕ) → HasPlace n place → is_place place ≡ true
    → p (record { target = target_in n place; bytes = b ∷ bs }) ≡ true)
    → list_all p (flat_map (filled_place n) table) ≡ true
filled_pass p n [] proper each = refl
filled_pass p n ((place, []) ∷ es) proper each = filled_pass p n es proper.2 each
filled_pass p n ((place, b ∷ bs) ∷ es) proper each =
    and_from _ _ (each place b bs proper.0 proper.1) (filled_pass p n es proper.2 each)

all_pass : (p : Delivery → Bool) (n : ℕ) (buffers : Buffers) → AreSlotsFrom n buffers
    → ((k : ℕ) (place : List ℕ) (b : ℕ) (bs : List ℕ) → n ≤ k → k < n + length buffers → HasPlace k place
    → is_place place ≡ true → p (record { target = target_in k place; bytes = b ∷ bs }) ≡ true)
    → list_all p (all_from n buffers) ≡ true
all_pass p n [] slots each = refl
all_pass p n (table ∷ tables) slots each =
    let s = slots.0 in
    let e : suc n ≡ n + 1 = omega arith in
    list_all-append p (filled_slot (n, table)) (all_from (n + 1) tables)
    ∙ and_from _ _
    (filled_pass p n table (proper_slot n table s.places s.bad_lines)
    (λ place b bs h placed. each n place b bs (omega arith) (omega arith) h placed))
    (all_pass p (n + 1) tables (subst (λ k. AreSlotsFrom k tables) e slots.1)
    (λ k place b bs low high h placed. each k place b bs (omega (arith, low)) (omega (arith, high)) h placed))

-- ---- no two have one target

skipped : (low next : List ℕ) (names : List (List ℕ)) → IsInByteOrder (low ∷ next ∷ names)
    → IsInByteOrder (low ∷ names)
skipped low next [] rising = tt
skipped low next (name ∷ names) rising = (less_then low next name rising.0 rising.1.0, rising.1.1)

others_differ : (low : List ℕ) (n : ℕ) (table : Table (List ℕ)) → IsInByteOrder (low ∷ names_of table) → HasPlace n low
    → AreProper n table
    → list_all (λ d. not (same_target (target_in n low) d.target)) (flat_map (filled_place n) table) ≡ true
others_differ low n [] rising h proper = refl
others_differ low n ((place, []) ∷ es) rising h proper =
    others_differ low n es (skipped low place (names_of es) rising) h proper.2
others_differ low n ((place, b ∷ bs) ∷ es) rising h proper =
    and_from _ _
    (ap not (same_in_slot (target_in n low) n place proper.0
    ∙ ap (λ q. nat_eq (slot_of (target_in n low)) n && bytes_eq q place) (place_in_slot n low h)
    ∙ ap (λ v. nat_eq (slot_of (target_in n low)) n && v) (two_names low place (less_apart low place rising.0))
    ∙ and_false (nat_eq (slot_of (target_in n low)) n)))
    (others_differ low n es (skipped low place (names_of es) rising) h proper.2)
  where
    and_false : (v : Bool) → (v && false) ≡ false
    and_false true = refl
    and_false false = refl

slot_apart : (n : ℕ) (table : Table (List ℕ)) → IsInByteOrder (names_of table) → AreProper n table
    → all_apart (flat_map (filled_place n) table) ≡ true
slot_apart n [] rising proper = refl
slot_apart n ((place, []) ∷ es) rising proper = slot_apart n es (rising_tail place (names_of es) rising) proper.2
slot_apart n ((place, b ∷ bs) ∷ es) rising proper =
    and_from _ _ (others_differ place n es rising proper.0 proper.2)
    (slot_apart n es (rising_tail place (names_of es) rising) proper.2)

-- two lists, where no target of one is one of the other's
apart-append : (xs ys : List Delivery) → all_apart xs ≡ true → all_apart ys ≡ true
    → list_all (λ d. list_all (λ e. not (same_target d.target e.target)) ys) xs ≡ true → all_apart (xs ++ ys) ≡ true
apart-append [] ys a b across = b
apart-append (d ∷ xs) ys a b across =
    let here = and_parts _ (all_apart xs) a in
    let over = and_parts (list_all (λ e. not (same_target d.target e.target)) ys) _ across in
    and_from _ _
    (list_all-append (λ e. not (same_target d.target e.target)) xs ys ∙ and_from _ _ here.0 over.0)
    (apart-append xs ys here.1 b over.1)

across_slots : (n k : ℕ) (place other : List ℕ) → HasPlace k other → n ≢ k
    → not (same_target (target_in n place) (target_in k other)) ≡ true
across_slots n k place other h differ =
    ap not (same_in_slot (target_in n place) k other h
    ∙ ap (λ m. nat_eq m k && bytes_eq (place_in (target_in n place)) other) (slot_in n place)
    ∙ ap (λ v. v && bytes_eq (place_in (target_in n place)) other) (apart n k differ))
  where
    apart : (m n : ℕ) → m ≢ n → nat_eq m n ≡ false
    apart m n e = grind (arith, nat_tests)

slots_apart : (n : ℕ) (buffers : Buffers) → AreSlotsFrom n buffers → all_apart (all_from n buffers) ≡ true
slots_apart n [] slots = refl
slots_apart n (table ∷ tables) slots =
    let s = slots.0 in
    let proper = proper_slot n table s.places s.bad_lines in
    let e : suc n ≡ n + 1 = omega arith in
    let rest = subst (λ k. AreSlotsFrom k tables) e slots.1 in
    apart-append (filled_slot (n, table)) (all_from (n + 1) tables)
    (slot_apart n table s.rising proper)
    (slots_apart (n + 1) tables rest)
    (filled_pass (λ d. list_all (λ e. not (same_target d.target e.target)) (all_from (n + 1) tables)) n table proper
    (λ place b bs h placed. all_pass (λ e. not (same_target (target_in n place) e.target)) (n + 1) tables rest
    (λ k other c cs low high fits there. across_slots n k place other fits
    (λ same. absurd (omega (arith, same, low))))))

-- ---- the laws

pub filled_are_sent : FilledBuffersAreSent
unfolding filled_targets
filled_are_sent buffers slots = record {
  sent = filled_sent buffers slots;
  placed = all_pass (λ d. is_placed d.target) 0 buffers slots
      (λ k place b bs low high h placed. placed_in_slot k place placed);
  within = all_pass (λ d. nat_lt (slot_of d.target) (length buffers)) 0 buffers slots
      (λ k place b bs low high h placed. ap (λ m. nat_lt m (length buffers)) (slot_in k place)
      ∙ lt-ltb k (length buffers) (omega (arith, high)));
  some = all_pass (λ d. has_bytes d.bytes) 0 buffers slots (λ k place b bs low high h placed. refl);
  apart = slots_apart 0 buffers slots;
}

pub pieces_fill : PiecesFillBuffers
pieces_fill before after given empty added slots t =
    sym (filled_sent after slots t ∙ added t ∙ ap (λ l. l ++ sent_to t given) (empty t))
