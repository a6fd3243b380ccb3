-- What the buffers of slots hold, as appends.
use Rattle.std.proofs.Common.{◌≡◌, ◌≢◌, ℕ, zero, suc, ◌+◌, ◌/◌, ◌%◌, ◌<◌, ◌≤◌, ◌^◌, Bool, true, false, cond, nat_eq}
use Rattle.std.proofs.Common.{List, [], ◌∷◌, ◌++◌, length, map, flat_map, take, get_or, refl, sym, ap, subst, ◌∙◌, None}
use Rattle.std.proofs.Common.{Some, IfSome, option_map, arith, add-one}
use Rattle.std.specs.declared.option.Option.{Option}
use Rattle.std.specs.List.{enumerate_from, list_all, slice_get}
use Rattle.std.proofs.lemmas.Bool.{and_parts, eqb-false, eqb-true}
use Rattle.std.proofs.lemmas.List.{append-nil, map-append}
use Rattle.std.proofs.lemmas.List.Concat.{flat_map-append}
use Rattle.std.proofs.Math.Seq.{take-suc}
use Rattle.gob_bytes.specs.Tables.{Table, names_of}
use Rattle.gob_meaning.specs.Fold.{Delivery}
use Rattle.gob_meaning.specs.Items.{out, err}
use Rattle.gob_meaning.specs.Laws.{IsPlaced, is_folder}
use Rattle.gob_plan.specs.declared.plan.Plan.{Plan}
use Rattle.gob_plan.specs.declared.units.Unit.{Unit as WorkUnit}
use Rattle.gob_pipeline.specs.Made.{AreSlots, AreSlotsFrom, Buffers, IsSlot, filled_targets, filled_place, filled_slot}
use Rattle.gob_pipeline.specs.Made.{is_place, is_place_byte, is_placed, target_in}
use Rattle.gob_device.specs.Disk.{Both, Disk}
use Rattle.gob_recovery.specs.Sequence.{is_file_name}
use Rattle.gob_stage.specs.Attempt.{AreThere, AttemptValue, after_begin}
use Rattle.gob_stage.specs.Stages.{HoldsMore, after_staging}
use Rattle.gob_task.specs.Task.{name_in}
use Rattle.gob_task.specs.Staging.{Appended, AreFilled, append_of, appends_of}
use Rattle.gob_task.proofs.Appended.{append_nothing, append_one}

-- a place in a slot is a target that a name can have
pub placed_in : (slot : ℕ) (place : List ℕ) → slot < 2 ^ 32 → is_place place ≡ true → IsPlaced (target_in slot place)
placed_in zero place small is = tt
placed_in (suc n) place small is = elim (nat_eq (n % 2) 0)
    as (λ b. IsPlaced (cond b (out (n / 2) place) (err (n / 2) place))) [
      | true ↦ (branch, folder)
      | false ↦ (branch, folder)
    ]
  where
    branch : n / 2 < 2 ^ 64
    branch = omega (arith, small)

    folder : is_folder place ≡ true
    folder = (and_parts (is_folder place) (list_all is_place_byte place) is).0

pub is_placed_in : (slot : ℕ) (place : List ℕ) → is_place place ≡ true → is_placed (target_in slot place) ≡ true
is_placed_in zero place is = refl
is_placed_in (suc n) place is = elim (nat_eq (n % 2) 0)
    as (λ b. is_placed (cond b (out (n / 2) place) (err (n / 2) place)) ≡ true) [
      | true ↦ is
      | false ↦ is
    ]

filled_append : (xs ys : List Delivery) → AreFilled xs → AreFilled ys → AreFilled (xs ++ ys)
filled_append [] ys a b = b
filled_append (x ∷ xs) ys a b = (a.0, a.1, filled_append xs ys a.2 b)

slot_filled : (slot : ℕ) (table : Table (List ℕ)) → slot < 2 ^ 32 → list_all is_place (names_of table) ≡ true
    → AreFilled (flat_map (filled_place slot) table)
slot_filled slot [] small places = tt
slot_filled slot ((place, []) ∷ es) small places =
    slot_filled slot es small (and_parts (is_place place) (list_all is_place (names_of es)) places).1
slot_filled slot ((place, b ∷ bs) ∷ es) small places =
    let parts = and_parts (is_place place) (list_all is_place (names_of es)) places in
    (placed_in slot place small parts.0, (λ e. let no : b ∷ bs ≡ [] = e in cc), slot_filled slot es small parts.1)

filled_from : (slot : ℕ) (buffers : Buffers) → slot + length buffers ≤ 2 ^ 32 → AreSlotsFrom slot buffers
    → AreFilled (flat_map filled_slot (enumerate_from slot buffers))
filled_from slot [] few slots = tt
filled_from slot (table ∷ tables) few slots =
    filled_append (flat_map (filled_place slot) table) (flat_map filled_slot (enumerate_from (slot + 1) tables))
    (slot_filled slot table (omega (arith, few)) slots.0.places)
    (filled_from (slot + 1) tables (omega (arith, few)) (subst (λ n. AreSlotsFrom n tables) (sym (add-one slot))
    slots.1))

-- what buffers hold has targets that a name can have
pub all_filled : (buffers : Buffers) → length buffers ≤ 2 ^ 32 → AreSlots buffers → AreFilled (filled_targets buffers)
unfolding filled_targets
all_filled buffers few slots = filled_from 0 buffers (omega (arith, few)) slots

-- ---- one more place, and one more slot

pub next_place : (plan : Plan) (u : WorkUnit) (slot : ℕ) (places : Table (List ℕ)) (i : ℕ) (e : List ℕ × List ℕ)
    → i < length places → e ≡ get_or places i e
    → appends_of plan u (flat_map (filled_place slot) (take (i + 1) places))
    ≡ appends_of plan u (flat_map (filled_place slot) (take i places)) ++ appends_of plan u (filled_place slot e)
next_place plan u slot places i e within is =
    let more : take (i + 1) places ≡ take i places ++ e ∷ [] =
    rw add-one (take-suc places i e within ∙ ap (λ x. take i places ++ x ∷ []) (sym is)) in
    ap (λ es. appends_of plan u (flat_map (filled_place slot) es)) more
    ∙ (ap (map (append_of plan u)) (flat_map-append (filled_place slot) (take i places) (e ∷ []) ∙ one)
    ∙ map-append (append_of plan u) (flat_map (filled_place slot) (take i places)) (filled_place slot e))
  where
    one : flat_map (filled_place slot) (take i places) ++ flat_map (filled_place slot) (e ∷ [])
        ≡ flat_map (filled_place slot) (take i places) ++ filled_place slot e
    one = ap (λ ds. flat_map (filled_place slot) (take i places) ++ ds) (append-nil (filled_place slot e))

-- what the first so many slots hold
abbrev pub filled_front : ℕ → Buffers → List Delivery
filled_front i buffers = flat_map filled_slot (take i (enumerate_from 0 buffers))

slot_next : (start i : ℕ) (buffers : Buffers) (table : Table (List ℕ)) → slice_get buffers i ≡ Some table
    → take (suc i) (enumerate_from start buffers) ≡ take i (enumerate_from start buffers) ++ (start + i, table) ∷ []
slot_next start i [] table is = absurd (let no : None ≡ Some table = is in cc)
slot_next start zero (b ∷ bs) table is =
    let same : b ≡ table = cc in
    let e : start ≡ start + 0 = omega arith in λ j. (e j, same j) ∷ []
slot_next start (suc i) (b ∷ bs) table is =
    let e : start + 1 + i ≡ start + suc i = omega arith in
    ap (λ es. (start, b) ∷ es) (slot_next (start + 1) i bs table is
    ∙ ap (λ n. take i (enumerate_from (start + 1) bs) ++ (n, table) ∷ []) e)

pub next_slot : (plan : Plan) (u : WorkUnit) (buffers : Buffers) (i : ℕ) (table : Table (List ℕ))
    → slice_get buffers i ≡ Some table
    → appends_of plan u (filled_front (i + 1) buffers)
    ≡ appends_of plan u (filled_front i buffers) ++ appends_of plan u (flat_map (filled_place i) table)
next_slot plan u buffers i table is =
    let zero_more : 0 + i ≡ i = omega arith in
    let taken : take (i + 1) (enumerate_from 0 buffers) ≡ take i (enumerate_from 0 buffers) ++ (i, table) ∷ [] =
    rw add-one (slot_next 0 i buffers table is
    ∙ ap (λ n. take i (enumerate_from 0 buffers) ++ (n, table) ∷ []) zero_more) in
    ap (λ es. appends_of plan u (flat_map filled_slot es)) taken
    ∙ (ap (map (append_of plan u))
    (flat_map-append filled_slot (take i (enumerate_from 0 buffers)) ((i, table) ∷ [])
    ∙ ap (λ ds. filled_front i buffers ++ ds) (append-nil (flat_map (filled_place i) table)))
    ∙ map-append (append_of plan u) (filled_front i buffers) (flat_map (filled_place i) table))

all_taken : {X : Type 0} (start : ℕ) (xs : List X) (i : ℕ) → length xs ≤ i
    → take i (enumerate_from start xs) ≡ enumerate_from start xs
all_taken start [] zero past = refl
all_taken start [] (suc i) past = refl
all_taken start (x ∷ xs) zero past = absurd (omega (arith, past))
all_taken start (x ∷ xs) (suc i) past = ap (λ es. (start, x) ∷ es) (all_taken (start + 1) xs i (omega (arith, past)))

pub all_slots : (buffers : Buffers) (i : ℕ) → length buffers ≤ i → filled_front i buffers ≡ filled_targets buffers
unfolding filled_targets
all_slots buffers i past = ap (flat_map filled_slot) (all_taken 0 buffers i past)

-- ---- slots, one by one

slots_from : (start : ℕ) (buffers : Buffers)
    → ((i : ℕ) (table : Table (List ℕ)) → slice_get buffers i ≡ Some table → IsSlot (start + i) table)
    → AreSlotsFrom start buffers
slots_from start [] each = tt
slots_from start (b ∷ bs) each =
    let e : start + 0 ≡ start = omega arith in (
      subst (λ n. IsSlot n b) e (each 0 b refl),
      slots_from (suc start) bs (λ i table is.
          let f : start + suc i ≡ suc start + i = omega arith in
          subst (λ n. IsSlot n table) f (each (suc i) table is)),
    )

-- the first so many are slots
pub record AreSlotsTo (i : ℕ) (buffers : Buffers) : Type 0 where
  pub each : (k : ℕ) (table : Table (List ℕ)) → k < i → slice_get buffers k ≡ Some table → IsSlot k table

pub no_slots : (buffers : Buffers) → AreSlotsTo 0 buffers
no_slots buffers = record { each = λ k table below is. absurd (omega (arith, below)) }

pub more_slots : (i : ℕ) (buffers : Buffers) (table : Table (List ℕ)) → AreSlotsTo i buffers
    → slice_get buffers i ≡ Some table → IsSlot i table → AreSlotsTo (i + 1) buffers
more_slots i buffers table s is proper = record { each = each }
  where
    each : (k : ℕ) (t : Table (List ℕ)) → k < i + 1 → slice_get buffers k ≡ Some t → IsSlot k t
    each k t below found = by (nat_eq k i) refl
      where
        by : (b : Bool) → nat_eq k i ≡ b → IsSlot k t
        by true e =
            let same : k ≡ i = eqb-true k i e in
            let one : t ≡ table =
            let both : Some t ≡ Some table = sym found ∙ (ap (slice_get buffers) same ∙ is) in cc in
            subst (λ n. IsSlot n t) (sym same) (subst (IsSlot i) (sym one) proper)
        by false e =
            let apart : k ≢ i = eqb-false k i e in
            s.each k t (omega (arith, below, apart)) found

within_slots : {X : Type 0} (xs : List X) (k : ℕ) (x : X) → slice_get xs k ≡ Some x → k < length xs
within_slots [] k x is = absurd (let no : None ≡ Some x = is in cc)
within_slots (y ∷ ys) zero x is = omega arith
within_slots (y ∷ ys) (suc k) x is = omega (arith, within_slots ys k x is)

pub slots_all : (i : ℕ) (buffers : Buffers) → length buffers ≤ i → AreSlotsTo i buffers → AreSlots buffers
slots_all i buffers past s =
    slots_from 0 buffers (λ k table is.
    let below : k < i = omega (arith, past, within_slots buffers k table is) in
    let zero_more : k ≡ 0 + k = omega arith in
    subst (λ n. IsSlot n table) zero_more (s.each k table below is))

-- ---- one place

pub place_at : (table : Table (List ℕ)) (i : ℕ) (e : List ℕ × List ℕ) → i < length table → e ≡ get_or table i e
    → list_all is_place (names_of table) ≡ true → is_place e.0 ≡ true
place_at [] i e within is places = absurd (omega (arith, within))
place_at (d ∷ table) zero e within is places =
    ap (λ (x : List ℕ × List ℕ). is_place x.0) is
    ∙ (and_parts (is_place d.0) (list_all is_place (names_of table)) places).0
place_at (d ∷ table) (suc i) e within is places =
    place_at table i e (omega (arith, within)) is
    (and_parts (is_place d.0) (list_all is_place (names_of table)) places).1

pub all_places : (plan : Plan) (u : WorkUnit) (slot : ℕ) (places : Table (List ℕ)) (i : ℕ) → length places ≤ i
    → appends_of plan u (flat_map (filled_place slot) (take i places))
    ≡ appends_of plan u (flat_map (filled_place slot) places)
all_places plan u slot places i past = ap (λ es. appends_of plan u (flat_map (filled_place slot) es)) (whole places
    i past)
  where
    whole : {X : Type 0} (xs : List X) (i : ℕ) → length xs ≤ i → take i xs ≡ xs
    whole [] zero past = refl
    whole [] (suc i) past = refl
    whole (x ∷ xs) zero past = absurd (omega (arith, past))
    whole (x ∷ xs) (suc i) past = ap (λ es. x ∷ es) (whole xs i (omega (arith, past)))

filled_some : (slot : ℕ) (place bytes : List ℕ) → bytes ≢ []
    → filled_place slot (place, bytes) ≡ record { target = target_in slot place; bytes = bytes } ∷ []
filled_some slot place [] some = absurd (some refl)
filled_some slot place (b ∷ bs) some = refl

-- the bytes of a place are appended
pub place_appended : (plan : Plan) (u : WorkUnit) (slot : ℕ) (place bytes name sent : List ℕ) (a b : AttemptValue)
    (old new : Option Disk) → bytes ≢ [] → name ≡ name_in plan u (target_in slot place) → sent ≡ bytes
    → is_file_name name ≡ true → b ≡ after_begin name a → new ≡ option_map (after_staging a name sent) old
    → Both (HoldsMore a name sent) old new → IfSome new (λ d. AreThere b d.files)
    → Appended (appends_of plan u (filled_place slot (place, bytes))) a b old new
place_appended plan u slot place bytes name sent a b old new some called same spelled begun calls holds there =
    subst (λ es. Appended es a b old new) whole (append_one a b name sent old new spelled begun calls holds there)
  where
    whole : (name, sent) ∷ [] ≡ appends_of plan u (filled_place slot (place, bytes))
    whole =
        (λ i. (called i, same i) ∷ [])
        ∙ ap (map (append_of plan u)) (sym (filled_some slot place bytes some))

-- a place without bytes is not
pub no_place_appended : (plan : Plan) (u : WorkUnit) (slot : ℕ) (place bytes : List ℕ) (a : AttemptValue) (o :
    Option Disk)
    → bytes ≡ [] → Appended (appends_of plan u (filled_place slot (place, bytes))) a a o o
no_place_appended plan u slot place bytes a o empty =
    subst (λ bs. Appended (appends_of plan u (filled_place slot (place, bs))) a a o o) (sym empty) (append_nothing a o)
