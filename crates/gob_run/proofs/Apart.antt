-- Units that fit tiled partitions share no offset.
use Rattle.std.proofs.Common.{◌≡◌, ⊎_elim, ℕ, ◌<◌, ◌≤◌, Bool, true, false, cond, ◌&&◌, List, [], ◌∷◌}
use Rattle.std.proofs.Common.{Some, bytes_eq, option_map, unwrap_or, refl, sym, ap, subst, ◌∙◌, arith}
use Rattle.std.specs.List.{Contains, IsDistinct}
use Rattle.std.proofs.lemmas.Bool.{and_from, and_parts}
use Rattle.gob_bytes.specs.Tables.{Table, at_name}
use Rattle.gob_bytes.proofs.Tables.{name_itself, same_name}
use Rattle.gob_plan.specs.declared.units.Unit.{Unit as WorkUnit}
use Rattle.gob_ledger.specs.Marks.{InOrder, Marks, Span, Tiled, has}
use Rattle.gob_ledger.specs.Units.{AreAdjacentFrom, IsOwed, UnitsFit, fresh_in, next_of, same_span, same_unit, span_of}
use Rattle.gob_ledger.proofs.Changes.{all_member}
use Rattle.gob_ledger.proofs.Cutting.{follow_above}
use Rattle.gob_ledger.proofs.Members.{filter_in, first_in, in_cases, later_in, none_in}
use Rattle.gob_ledger.proofs.Ranges.{order_members, owed_below, same_itself, within}
use Rattle.gob_run.proofs.Holding.{AllApart, AreApart}

-- the marks of every partition are tiled
abbrev pub AreTiled : Table Marks → Type 0
AreTiled parts = (part : List ℕ) (m : Marks) → at_name parts part ≡ Some m → Tiled m

-- two ranges in order that share an offset are one
one_of : (from : ℕ) (ss : List Span) (s t : Span) (at : ℕ) → InOrder from ss → Contains ss s → Contains ss t
    → has at s ≡ true → has at t ≡ true → s ≡ t
one_of from [] s t at order h k in_s in_t = none_in s h
one_of from (r ∷ rs) s t at order h k in_s in_t = ⊎_elim
    (λ is_s. ⊎_elim (λ is_t. sym is_s ∙ is_t) (λ later. absurd (behind r t order.2 later (first is_s in_s) in_t))
    (in_cases r rs t k))
    (λ later. ⊎_elim (λ is_t. absurd (behind r s order.2 later (first is_t in_t) in_s))
    (λ last. one_of r.hi rs s t at order.2 later last in_s in_t) (in_cases r rs t k))
    (in_cases r rs s h)
  where
    first : {x : Span} → r ≡ x → has at x ≡ true → has at r ≡ true
    first is e = ap (has at) is ∙ e

    behind : (a b : Span) → InOrder a.hi rs → Contains rs b → has at a ≡ true → has at b ≡ true → ⊥
    behind a b rest there in_a in_b =
        let above = (order_members a.hi rs b rest there).0 in
        let x = within at a in_a in
        let y = within at b in_b in
        omega (arith, above, x.1, y.0)

-- the fresh units of each partition are in a row behind what was taken of it
abbrev FollowOn : Table Marks → List WorkUnit → Type 0
FollowOn parts us = (part : List ℕ) → (from : ℕ) × (next_of parts part ≤ from) × AreAdjacentFrom from (fresh_in part us)

fresh_of : (u : WorkUnit) (us : List WorkUnit) (part : List ℕ) (b : Bool) → (u.fresh && bytes_eq u.part part) ≡ b
    → fresh_in part (u ∷ us) ≡ cond b (u ∷ fresh_in part us) (fresh_in part us)
fresh_of u us part b e = ap (λ v. cond v (u ∷ fresh_in part us) (fresh_in part us)) e

follow_rest : (parts : Table Marks) (u : WorkUnit) (us : List WorkUnit) → FollowOn parts (u ∷ us) → FollowOn parts us
follow_rest parts u us follow part = elim (u.fresh && bytes_eq u.part part) as
    (λ b. (u.fresh && bytes_eq u.part part) ≡ b
    → (from : ℕ) × (next_of parts part ≤ from) × AreAdjacentFrom from (fresh_in part us)) [
      | true ↦ λ e.
          let l = follow part in
          let here = subst (AreAdjacentFrom l.0) (fresh_of u us part true e) l.2 in
          (u.hi, (let low = l.1 in let at = here.0 in let some = here.1 in omega (arith, low, at, some)), here.2)
      | false ↦ λ e.
          let l = follow part in (l.0, l.1, subst (AreAdjacentFrom l.0) (fresh_of u us part false e) l.2)
    ] refl

next_is : (parts : Table Marks) (part : List ℕ) (m : Marks) → at_name parts part ≡ Some m → next_of parts part ≡ m.next
next_is parts part m e = ap (λ o. unwrap_or (option_map (λ (x : Marks). x.next) o) 0) e

-- an owed unit ends before the next offset of its partition
owed_ends : (parts : Table Marks) (u : WorkUnit) → AreTiled parts → IsOwed parts u → u.hi ≤ next_of parts u.part
owed_ends parts u tiled o =
    let low = owed_below o.0 (tiled u.part o.0 o.1) (span_of u) o.2 in
    let next = next_is parts u.part o.0 o.1 in
    omega (arith, low, next)

-- a fresh unit begins there or later
fresh_begins : (parts : Table Marks) (us : List WorkUnit) (u : WorkUnit) → FollowOn parts us → Contains us u
    → u.fresh ≡ true → next_of parts u.part ≤ u.lo
fresh_begins parts us u follow there e =
    let l = follow u.part in
    let in_it : Contains (fresh_in u.part us) u = filter_in (λ w. w.fresh && bytes_eq w.part u.part) us u there
    (and_from u.fresh (bytes_eq u.part u.part) e (name_itself u.part)) in
    let above = (follow_above l.0 (fresh_in u.part us) u l.2 in_it).0 in
    let low = l.1 in
    omega (arith, low, above)

both_owed : (parts : Table Marks) (u v : WorkUnit) (at : ℕ) → AreTiled parts → IsOwed parts u → IsOwed parts v
    → u.part ≡ v.part → has at (span_of u) ≡ true → has at (span_of v) ≡ true → same_unit u v ≡ true
both_owed parts u v at tiled o p part in_u in_v =
    let m : p.0 ≡ o.0 = let both : Some p.0 ≡ Some o.0 = sym p.1 ∙ ap (at_name parts) (sym part) ∙ o.1 in cc in
    let one : span_of u ≡ span_of v = one_of 0 o.0.owed (span_of u) (span_of v) at (tiled u.part o.0 o.1).owed o.2
    (subst (λ (n : Marks). Contains n.owed (span_of v)) m p.2) in_u in_v in
    and_from (bytes_eq u.part v.part) (same_span (span_of u) (span_of v))
    (subst (λ q. bytes_eq u.part q ≡ true) part (name_itself u.part))
    (subst (λ s. same_span (span_of u) s ≡ true) one (same_itself (span_of u)))

-- the first unit shares no offset with a later one
first_apart : (parts : Table Marks) (u : WorkUnit) (us : List WorkUnit) (v : WorkUnit) → AreTiled parts
    → IsDistinct same_unit (u ∷ us)
    → ((w : WorkUnit) → Contains (u ∷ us) w → w.fresh ≡ false → IsOwed parts w) → FollowOn parts (u ∷ us)
    → Contains us v → AreApart u v
unfolding IsDistinct
first_apart parts u us v tiled once owed follow there at in_u in_v = cases u.fresh v.fresh refl refl
  where
    split_u : (bytes_eq u.part v.part ≡ true) × (has at (span_of u) ≡ true)
    split_u = and_parts (bytes_eq u.part v.part) (has at (span_of u)) in_u

    in_span : has at (span_of v) ≡ true
    in_span = (and_parts (bytes_eq v.part v.part) (has at (span_of v)) in_v).1

    part : u.part ≡ v.part
    part = same_name u.part v.part split_u.0

    above : (u.lo ≤ at) × (at < u.hi)
    above = within at (span_of u) split_u.1

    below : (v.lo ≤ at) × (at < v.hi)
    below = within at (span_of v) in_span

    later : Contains (u ∷ us) v
    later = later_in u us v there

    first : Contains (u ∷ us) u
    first = first_in u us u refl

    next : next_of parts u.part ≡ next_of parts v.part
    next = ap (next_of parts) part

    cases : (b c : Bool) → u.fresh ≡ b → v.fresh ≡ c → ⊥
    cases true true is_u is_v =
        let l = follow u.part in
        let fresh = and_from u.fresh (bytes_eq u.part u.part) is_u (name_itself u.part) in
        let here = subst (AreAdjacentFrom l.0) (fresh_of u us u.part true fresh) l.2 in
        let name : bytes_eq v.part u.part ≡ true = subst (λ q. bytes_eq q u.part ≡ true) part (name_itself u.part) in
        let in_it : Contains (fresh_in u.part us) v = filter_in (λ w. w.fresh && bytes_eq w.part u.part) us v there
        (and_from v.fresh (bytes_eq v.part u.part) is_v name) in
        let behind = (follow_above u.hi (fresh_in u.part us) v here.2 in_it).0 in
        omega (arith, behind, above.1, below.0)
    cases true false is_u is_v =
        let begins = fresh_begins parts (u ∷ us) u follow first is_u in
        let ends = owed_ends parts v tiled (owed v later is_v) in
        omega (arith, begins, ends, next, above.0, below.1)
    cases false true is_u is_v =
        let begins = fresh_begins parts (u ∷ us) v follow later is_v in
        let ends = owed_ends parts u tiled (owed u first is_u) in
        omega (arith, begins, ends, next, above.1, below.0)
    cases false false is_u is_v =
        let same = both_owed parts u v at tiled (owed u first is_u) (owed v later is_v) part split_u.1 in_span in
        let differ = all_member (λ (w : WorkUnit). same_unit u w ≡ false) us v once.0 there in
        let clash : true ≡ false = sym same ∙ differ in cc

all_apart : (parts : Table Marks) (us : List WorkUnit) → AreTiled parts → IsDistinct same_unit us
    → ((w : WorkUnit) → Contains us w → w.fresh ≡ false → IsOwed parts w) → FollowOn parts us → AllApart us
unfolding IsDistinct
all_apart parts [] tiled once owed follow = tt
all_apart parts (u ∷ us) tiled once owed follow = (
  λ v there. first_apart parts u us v tiled once owed follow there,
  all_apart parts us tiled once.1 (λ w there. owed w (later_in u us w there)) (follow_rest parts u us follow),
)

-- units that fit share no offset
pub fit_apart : (parts : Table Marks) (units : List WorkUnit) → UnitsFit parts units → AreTiled parts → AllApart units
fit_apart parts units fit tiled = all_apart parts units tiled fit.once fit.owed
    (λ part. (next_of parts part, omega arith, fit.fresh part))
