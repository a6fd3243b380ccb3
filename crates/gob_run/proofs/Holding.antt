-- A table that holds the bytes of units of which no two share an offset.
use Rattle.std.proofs.Common.{◌≡◌, ℕ, zero, suc, ◌+◌, ◌-◌, ◌<◌, ◌≤◌, Bool, true, false, cond, ◌&&◌, nat_le, nat_lt}
use Rattle.std.proofs.Common.{List, [], ◌∷◌, map, length, get_or, take, drop, slice_get, bytes_eq, Some, None}
use Rattle.std.proofs.Common.{unwrap_or, refl, sym, ap, subst, ◌∙◌, arith, length-take, length-drop, get_or-take}
use Rattle.std.proofs.Common.{get_or-drop, ext_get_or}
use Rattle.std.specs.List.{Contains, range_with_len}
use Rattle.std.proofs.lemmas.Bool.{and_from, le-leb, lt-ltb, false_from_ne_true}
use Rattle.std.proofs.lemmas.List.FromFn.{get_or-map-range_with_len, length-map-range_with_len}
use Rattle.std.proofs.lemmas.Option.{get_or_from_slice_get, same_Some, slice_get_within}
use Rattle.gob_bytes.specs.Tables.{at_name}
use Rattle.gob_bytes.proofs.Tables.{name_itself, same_name}
use Rattle.gob_device.specs.Supply.{Held, bytes_from}
use Rattle.gob_plan.specs.declared.units.Unit.{Unit as WorkUnit}

-- the offset of this partition lies in the unit
abbrev pub lies_in : List ℕ → ℕ → WorkUnit → Bool
lies_in part at u = bytes_eq u.part part && (nat_le u.lo at && nat_lt at u.hi)

-- two units share no offset
abbrev pub AreApart : WorkUnit → WorkUnit → Type 0
AreApart u v = (at : ℕ) → lies_in v.part at u ≡ true → lies_in v.part at v ≡ true → ⊥

-- no two units do
abbrev pub AllApart : List WorkUnit → Type 0
AllApart [] = Unit {0}
AllApart (u ∷ us) = ((v : WorkUnit) → Contains us v → AreApart u v) × AllApart us

-- the byte at an offset, where the units were given these bytes: that of the first unit that has it
abbrev byte_at : List WorkUnit → (ℕ → List ℕ) → List ℕ → ℕ → ℕ
byte_at [] given part at = 0
byte_at (u ∷ us) given part at =
    cond (lies_in part at u) (get_or (given 0) (at - u.lo) 0) (byte_at us (λ i. given (suc i)) part at)

lies_itself : (u : WorkUnit) (k : ℕ) → k < u.hi - u.lo → lies_in u.part (u.lo + k) u ≡ true
lies_itself u k below = and_from (bytes_eq u.part u.part) (nat_le u.lo (u.lo + k) && nat_lt (u.lo + k) u.hi)
    (name_itself u.part)
    (and_from (nat_le u.lo (u.lo + k)) (nat_lt (u.lo + k) u.hi) (le-leb u.lo (u.lo + k) (omega arith))
    (lt-ltb (u.lo + k) u.hi (omega (arith, below))))

at_place : (units : List WorkUnit) (i : ℕ) (u : WorkUnit) → slice_get units i ≡ Some u → Contains units u
at_place units i u e = (i, slice_get_within units i u e, get_or_from_slice_get units i u u e)

-- each unit that shares no offset has its own bytes
byte_given : (units : List WorkUnit) (given : ℕ → List ℕ) → AllApart units → (i : ℕ) (u : WorkUnit)
    → slice_get units i ≡ Some u → (k : ℕ) → k < u.hi - u.lo
    → byte_at units given u.part (u.lo + k) ≡ get_or (given i) k 0
byte_given [] given apart i u e k below = absurd (let no : None ≡ Some u = e in cc)
byte_given (v ∷ vs) given apart zero u e k below = subst
    (λ (w : WorkUnit). k < w.hi - w.lo → byte_at (v ∷ vs) given w.part (w.lo + k) ≡ get_or (given 0) k 0)
    (same_Some v u e)
    (λ within. ap (λ b. cond b (get_or (given 0) (v.lo + k - v.lo) 0)
    (byte_at vs (λ i. given (suc i)) v.part (v.lo + k))) (lies_itself v k within)
    ∙ ap (λ n. get_or (given 0) n 0) (let same : v.lo + k - v.lo ≡ k = omega arith in same))
    below
byte_given (v ∷ vs) given apart (suc i) u e k below =
    let other : lies_in u.part (u.lo + k) v ≡ false = false_from_ne_true (lies_in u.part (u.lo + k) v)
    (λ both. apart.0 u (at_place vs i u e) (u.lo + k) both (lies_itself u k below)) in
    ap (λ b. cond b (get_or (given 0) (u.lo + k - v.lo) 0) (byte_at vs (λ j. given (suc j)) u.part (u.lo + k))) other
    ∙ byte_given vs (λ j. given (suc j)) apart.1 i u e k below

-- no unit ends behind it
abbrev last_end : List WorkUnit → ℕ
last_end [] = 0
last_end (u ∷ us) = u.hi + last_end us

ends_before : (units : List WorkUnit) (i : ℕ) (u : WorkUnit) → slice_get units i ≡ Some u → u.hi ≤ last_end units
ends_before [] i u e = absurd (let no : None ≡ Some u = e in cc)
ends_before (v ∷ vs) zero u e =
    let same : v.hi ≡ u.hi = ap (λ (w : WorkUnit). w.hi) (same_Some v u e) in omega (arith, same)
ends_before (v ∷ vs) (suc i) u e = let later = ends_before vs i u e in omega (arith, later)

abbrev part_held : List WorkUnit → (ℕ → List ℕ) → List ℕ → List ℕ
part_held units given part = map (byte_at units given part) (range_with_len 0 (last_end units))

-- the partitions of all units, with the bytes that were given
abbrev pub held_of : List WorkUnit → (ℕ → List ℕ) → Held
held_of units given = map (λ u. (u.part, part_held units given u.part)) units

at_part : (content : List ℕ → List ℕ) (units : List WorkUnit) (i : ℕ) (u : WorkUnit) → slice_get units i ≡ Some u
    → at_name (map (λ (v : WorkUnit). (v.part, content v.part)) units) u.part ≡ Some (content u.part)
at_part content [] i u e = absurd (let no : None ≡ Some u = e in cc)
at_part content (v ∷ vs) zero u e =
    let same : v ≡ u = same_Some v u e in
    let here : bytes_eq u.part v.part ≡ true =
    subst (λ (w : WorkUnit). bytes_eq w.part v.part ≡ true) same (name_itself v.part) in
    ap (λ b. cond b (Some (content v.part)) (at_name (map (λ (w : WorkUnit). (w.part, content w.part)) vs) u.part)) here
    ∙ ap (λ (w : WorkUnit). Some (content w.part)) same
at_part content (v ∷ vs) (suc i) u e = elim (bytes_eq u.part v.part) as (λ b. bytes_eq u.part v.part ≡ b
    → cond b (Some (content v.part)) (at_name (map (λ (w : WorkUnit). (w.part, content w.part)) vs) u.part)
    ≡ Some (content u.part)) [
      | true ↦ λ is. ap (λ p. Some (content p)) (sym (same_name u.part v.part is))
      | false ↦ λ is. at_part content vs i u e
    ] refl

-- the table holds what was given to each unit, where that is as long as its range
pub holds : (units : List WorkUnit) (given : ℕ → List ℕ) → AllApart units → (i : ℕ) (u : WorkUnit)
    → slice_get units i ≡ Some u → length (given i) ≡ u.hi - u.lo
    → bytes_from (held_of units given) u.part u.lo (u.hi - u.lo) ≡ given i
unfolding bytes_from
holds units given apart i u e whole =
    ap (λ o. take (u.hi - u.lo) (drop u.lo (unwrap_or o []))) (at_part (part_held units given) units i u e)
    ∙ ext_get_or 0 (take (u.hi - u.lo) (drop u.lo all)) (given i) (long ∙ sym whole)
    (λ k below. get_or-take (u.hi - u.lo) (drop u.lo all) k 0 (within k below)
    ∙ get_or-drop u.lo all k 0
    ∙ get_or-map-range_with_len (byte_at units given u.part) 0 (last_end units) (u.lo + k) (u.lo + k) 0
    (let l = within k below in let most = ends_before units i u e in omega (arith, l, most)) (omega arith)
    ∙ byte_given units given apart i u e k (within k below))
  where
    all : List ℕ
    all = part_held units given u.part

    long : length (take (u.hi - u.lo) (drop u.lo all)) ≡ u.hi - u.lo
    long =
        let taken = length-take (u.hi - u.lo) (drop u.lo all) in
        let dropped = length-drop u.lo all in
        let whole = length-map-range_with_len (byte_at units given u.part) 0 (last_end units) in
        let most = ends_before units i u e in
        omega (arith, taken, dropped, whole, most)

    within : (k : ℕ) → k < length (take (u.hi - u.lo) (drop u.lo all)) → k < u.hi - u.lo
    within k below = omega (arith, below, long)
