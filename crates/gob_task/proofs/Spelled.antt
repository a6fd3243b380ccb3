-- The names of targets, in tables of slots.
use Rattle.std.proofs.Common.{◌≡◌, ◌⊎◌, ⊎_elim, inl, inr, ℕ, zero, suc, ◌<◌, Bool, true, false, cond, List, [], ◌∷◌}
use Rattle.std.proofs.Common.{◌++◌, length, get_or, set, map, refl, sym, ap, subst, ◌∙◌, None, Some, option_map, arith}
use Rattle.std.specs.declared.cmp.Ordering.{Ordering}
use Rattle.std.specs.declared.cmp.Ordering.TheVariants.{Less, Equal, Greater}
use Rattle.std.specs.declared.option.Option.{Option}
use Rattle.std.specs.List.{slice_get}
use Rattle.std.specs.Option.{unwrap_or}
use Rattle.std.specs.Ordering.{is_gt}
use Rattle.std.specs.Str.{bytes_eq}
use Rattle.std.proofs.lemmas.List.{length-map, map-set}
use Rattle.std.proofs.lemmas.Option.{slice_get-get_or, slice_get-map, slice_get_read}
use Rattle.gob_bytes.specs.Tables.{Table, at_name, name_cmp, with_name}
use Rattle.gob_bytes.proofs.Tables.{at-with_name, name_level, rising-with_name, same_name}
use Rattle.gob_memory.specs.Places.{StandsAt, rank_of}
use Rattle.gob_memory.proofs.Places.{value_there}
use Rattle.gob_pipeline.specs.Made.{no_places, target_in}
use Rattle.gob_plan.specs.declared.plan.Plan.{Plan}
use Rattle.gob_plan.specs.declared.units.Unit.{Unit as WorkUnit}
use Rattle.gob_recovery.specs.Sequence.{is_file_name}
use Rattle.gob_task.specs.Task.{AreSpelled, IsSpelled, Names, name_at, name_in}

-- ---- one slot

no_places_spelled : (plan : Plan) (u : WorkUnit) (slot : ℕ) → IsSpelled plan u slot []
no_places_spelled plan u slot = record {
  rising = tt;
  names = λ place name is. absurd (let no : None ≡ Some name = is in cc);
  files = λ place name is. absurd (let no : None ≡ Some name = is in cc);
}

-- what holds of each value, and of one more
each_with : (P : List ℕ → List ℕ → Type 0) (t : Table (List ℕ)) (name x : List ℕ)
    → ((q y : List ℕ) → at_name t q ≡ Some y → P q y) → P name x → (q y : List ℕ)
    → at_name (with_name t name x) q ≡ Some y → P q y
each_with P t name x before here q y is = cases (bytes_eq q name) refl (sym (at-with_name t name x q) ∙ is)
  where
    cases : (b : Bool) → bytes_eq q name ≡ b → cond b (Some x) (at_name t q) ≡ Some y → P q y
    cases true e found =
        let one : x ≡ y = let both : Some x ≡ Some y = found in cc in
        subst (λ p. P p y) (sym (same_name q name e)) (subst (P name) one here)
    cases false e found = before q y found

pub spelled_with : (plan : Plan) (u : WorkUnit) (slot : ℕ) (t : Table (List ℕ)) (place name : List ℕ)
    → IsSpelled plan u slot t → name ≡ name_in plan u (target_in slot place) → is_file_name name ≡ true
    → IsSpelled plan u slot (with_name t place name)
spelled_with plan u slot t place name s is file = record {
  rising = rising-with_name t place name s.rising;
  names = each_with (λ p n. n ≡ name_in plan u (target_in slot p)) t place name s.names is;
  files = each_with (λ p n. is_file_name n ≡ true) t place name s.files file;
}

first_rank : (name : List ℕ) (n : ℕ) → cond (is_gt (name_cmp name name)) n zero ≡ zero
first_rank name n = ap (λ o. cond (is_gt o) n zero) (name_level name)

-- a name that is put in stands at its rank
pub stands_with : {X : Type 0} (t : Table X) (name : List ℕ) (x : X)
    → StandsAt (with_name t name x) name (rank_of t name)
stands_with [] name x = record { rank = first_rank name _; within = omega arith; named = λ d. refl }
stands_with {X} (e ∷ es) name x = cases (name_cmp name e.0) refl (stands_with es name x)
  where
    cases : (o : Ordering) → name_cmp name e.0 ≡ o → StandsAt (with_name es name x) name (rank_of es name)
        → StandsAt (with_name (e ∷ es) name x) name (rank_of (e ∷ es) name)
    cases Less is later = rw is (record { rank = first_rank name _; within = omega arith; named = λ d. refl })
    cases Equal is later = rw is (record { rank = first_rank name _; within = omega arith; named = λ d. refl })
    cases Greater is later = rw is (record {
      rank = ap (λ o. cond (is_gt o) (suc (rank_of (with_name es name x) name)) zero) is ∙ ap suc later.rank;
      within = omega (arith, later.within);
      named = later.named;
    })

-- ---- all slots

pub none_spelled : (plan : Plan) (u : WorkUnit) → AreSpelled plan u []
none_spelled plan u = record { each = λ slot table is. absurd (let no : None ≡ Some table = is in cc) }

pub none_more : (n : ℕ) → no_places n ++ [] ∷ [] ≡ no_places (suc n)
none_more zero = refl
none_more (suc n) = ap (λ names. [] ∷ names) (none_more n)

-- empty tables behind them spell nothing
pub more_spelled : (plan : Plan) (u : WorkUnit) (names more : Names) → (n : ℕ) × (more ≡ names ++ no_places n)
    → AreSpelled plan u names → AreSpelled plan u more
more_spelled plan u names more (n, is) s = subst (AreSpelled plan u) (sym is) (record {
  each = λ slot table at. ⊎_elim (λ old. s.each slot table old)
      (λ new. subst (IsSpelled plan u slot) (sym new) (no_places_spelled plan u slot)) (found names n slot table at);
})
  where
    found : (names : Names) (n k : ℕ) (table : Table (List ℕ)) → slice_get (names ++ no_places n) k ≡ Some table
        → (slice_get names k ≡ Some table) ⊎ (table ≡ [])
    found [] zero k table is = absurd (let no : None ≡ Some table = is in cc)
    found [] (suc n) zero table is = inr (let both : Some [] ≡ Some table = is in cc)
    found [] (suc n) (suc k) table is = found [] n k table is
    found (t ∷ ts) n zero table is = inl is
    found (t ∷ ts) n (suc k) table is = found ts n k table is

set_spelled : (plan : Plan) (u : WorkUnit) (names : Names) (slot : ℕ) (table : Table (List ℕ))
    → AreSpelled plan u names → IsSpelled plan u slot table → AreSpelled plan u (set names slot table)
set_spelled plan u names slot table s here = record {
  each = λ k t is. ⊎_elim
      (λ (e : (k ≡ slot) × (t ≡ table)). subst (λ n. IsSpelled plan u n t) (sym e.0)
      (subst (IsSpelled plan u slot) (sym e.1) here))
      (λ old. s.each k t old) (found names slot k t is);
}
  where
    found : (names : Names) (i k : ℕ) (t : Table (List ℕ)) → slice_get (set names i table) k ≡ Some t
        → ((k ≡ i) × (t ≡ table)) ⊎ (slice_get names k ≡ Some t)
    found [] i k t is = inr is
    found (s ∷ ss) zero zero t is = inl (refl, (let both : Some table ≡ Some t = is in cc))
    found (s ∷ ss) zero (suc k) t is = inr is
    found (s ∷ ss) (suc i) zero t is = inr is
    found (s ∷ ss) (suc i) (suc k) t is =
        ⊎_elim (λ (e : (k ≡ i) × (t ≡ table)). inl (ap suc e.0, e.1)) (λ old. inr old) (found ss i k t is)

-- ---- a name where it stands

set_there : (names : Names) (slot : ℕ) (table : Table (List ℕ)) → slot < length names
    → slice_get (set names slot table) slot ≡ Some table
set_there [] slot table within = absurd (omega (arith, within))
set_there (t ∷ ts) zero table within = refl
set_there (t ∷ ts) (suc i) table within = set_there ts i table (omega (arith, within))

-- the name of a place's target stands where the place does, in a slot's new table
name_there : (plan : Plan) (u : WorkUnit) (names : Names) (slot : ℕ) (t : Table (List ℕ)) (place : List ℕ) (i : ℕ)
    → slot < length names → IsSpelled plan u slot t → StandsAt t place i
    → (name_at (set names slot t) slot i ≡ Some (name_in plan u (target_in slot place)))
    × (is_file_name (name_in plan u (target_in slot place)) ≡ true)
name_there plan u names slot t place i within s at = (
  ap (λ o. option_map (λ (e : List ℕ × List ℕ). e.1) (slice_get (unwrap_or o []) i)) (set_there names slot t within)
      ∙ ap (option_map (λ (e : List ℕ × List ℕ). e.1)) (slice_get-get_or t i none at.within)
      ∙ ap (λ n. Some n) is,
  ap is_file_name (sym is) ∙ s.files place found found_at,
)
  where
    none : List ℕ × List ℕ
    none = ([], [])

    found : List ℕ
    found = (get_or t i none).1

    found_at : at_name t place ≡ Some found
    found_at = value_there t place i none s.rising at

    is : found ≡ name_in plan u (target_in slot place)
    is = s.names place found found_at

-- the table of a slot, as the code reads it from the vectors
pub slot_spelled : {V : Type 0} (view : V → Table (List ℕ)) (plan : Plan) (u : WorkUnit) (vectors : List V) (slot : ℕ)
    (v : V) → AreSpelled plan u (map view vectors) → slot < length vectors → v ≡ get_or vectors slot v
    → IsSpelled plan u slot (view v)
slot_spelled view plan u vectors slot v s within is =
    s.each slot (view v) (slice_get-map view vectors slot
    ∙ ap (option_map view) (slice_get_read vectors (length vectors) slot v refl within is))

-- ---- vectors as the code has them, where a slot's is replaced

pub vectors_spelled : {V : Type 0} (view : V → Table (List ℕ)) (plan : Plan) (u : WorkUnit) (names : Names)
    (vectors : List V) (slot : ℕ) (v : V) → (n : ℕ) × (map view vectors ≡ names ++ no_places n)
    → AreSpelled plan u names → IsSpelled plan u slot (view v) → AreSpelled plan u (map view (set vectors slot v))
vectors_spelled view plan u names vectors slot v more s here =
    subst (AreSpelled plan u) (sym (map-set view vectors slot v))
    (set_spelled plan u (map view vectors) slot (view v) (more_spelled plan u names (map view vectors) more s) here)

pub vectors_name : {V : Type 0} (view : V → Table (List ℕ)) (plan : Plan) (u : WorkUnit) (vectors : List V) (slot : ℕ)
    (v : V) (place : List ℕ) (i : ℕ) → slot < length vectors → IsSpelled plan u slot (view v)
    → StandsAt (view v) place i
    → (name_at (map view (set vectors slot v)) slot i ≡ Some (name_in plan u (target_in slot place)))
    × (is_file_name (name_in plan u (target_in slot place)) ≡ true)
vectors_name view plan u vectors slot v place i within here at =
    let there = name_there plan u (map view vectors) slot (view v) place i
    (omega (arith, within, length-map vectors view)) here at in
    (ap (λ names. name_at names slot i) (map-set view vectors slot v) ∙ there.0, there.1)

-- a name that is told twice is one, and can be a file's
pub name_told : {o : Option (List ℕ)} {told name : List ℕ} → o ≡ Some told → o ≡ Some name → is_file_name name ≡ true
    → (told ≡ name) × (is_file_name told ≡ true)
name_told {o} {told} {name} first second file =
    let same : told ≡ name = let both : Some told ≡ Some name = sym first ∙ second in cc in
    (same, ap is_file_name same ∙ file)
