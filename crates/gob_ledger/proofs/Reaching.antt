-- The new units of a run: no more than it may take, and up to the last line end where it takes fewer.
use Rattle.std.proofs.Common.{◌≡◌, ◌⊎◌, inl, inr, ⊎_elim, ℕ, zero, suc, ◌+◌, ◌<◌, ◌≤◌, min, Bool, true, false, cond}
use Rattle.std.proofs.Common.{◌&&◌, nat_lt, nat_le, List, [], ◌∷◌, length, take, refl, sym, ap, subst, ◌∙◌, Some, None}
use Rattle.std.proofs.Common.{is_some, take_all, length-take, length-append, arith}
use Rattle.std.specs.declared.option.Option.{Option}
use Rattle.std.specs.Option.{option_to_list}
use Rattle.std.specs.List.{Contains, count_by, filter, find, flat_map, last_or, range_with_len, slice_get}
use Rattle.std.proofs.lemmas.Bool.{lt-ltb, le-leb, and_from, cases_lt}
use Rattle.std.proofs.lemmas.List.Elements.{Contains-append_right}
use Rattle.std.proofs.lemmas.List.Sums.{sum_by-append, sum_by-cons}
use Rattle.std.proofs.lemmas.Option.{slice_get_within}
use Rattle.gob_bytes.specs.Lines.{line_ends}
use Rattle.gob_bytes.proofs.Tables.{member_from_at}
use Rattle.gob_device.specs.Supply.{Held}
use Rattle.gob_plan.specs.declared.plan.Limits.{Limits}
use Rattle.gob_plan.specs.declared.units.Unit.{Unit as WorkUnit}
use Rattle.gob_ledger.specs.Marks.{Span}
use Rattle.gob_ledger.specs.State.{State}
use Rattle.gob_ledger.specs.Units.{all_cuts, cut_end, cuts, cuts_of, in_rounds, is_kept, kept_parts, new_unit}
use Rattle.gob_ledger.specs.Units.{new_units, next_of, owed_units, then_cuts, units_of, units_of_parts}
use Rattle.gob_ledger.specs.UnitLaws.{NewUnitsReachTheEnd, new_count}
use Rattle.gob_ledger.proofs.Members.{none_in, first_in, later_in, in_cases, filter_in, map_in, flat_map_in}
use Rattle.gob_ledger.proofs.Attempts.{get_member}
use Rattle.gob_ledger.proofs.Counting.{one_if}
use Rattle.gob_ledger.proofs.Cutting.{cut_gives, new_member, old_member}
use Rattle.gob_ledger.proofs.Pieces.{above, few_above, one_above}

-- ---- cuts reach every line end

last_some : (o : Option ℕ) (xs : List ℕ) (x : ℕ) → Contains xs x → is_some (last_or o xs) ≡ true
last_some o [] x h = none_in x h
last_some o (y ∷ ys) x h = kept (Some y) ys refl
  where
    kept : (p : Option ℕ) (zs : List ℕ) → is_some p ≡ true → is_some (last_or p zs) ≡ true
    kept p [] some = some
    kept p (z ∷ zs) some = kept (Some z) zs refl

find_some : (p : ℕ → Bool) (xs : List ℕ) (x : ℕ) → Contains xs x → p x ≡ true → is_some (find p xs) ≡ true
find_some p [] x h e = none_in x h
find_some p (y ∷ ys) x h e = cases (p y) refl (in_cases y ys x h) (λ k. find_some p ys x k e)
  where
    cases : (b : Bool) → p y ≡ b → (y ≡ x) ⊎ Contains ys x → (Contains ys x → is_some (find p ys) ≡ true)
        → is_some (cond b (Some y) (find p ys)) ≡ true
    cases true is where_it_is later = refl
    cases false is (inl same) later = absurd (let no : true ≡ false = sym e ∙ (sym (ap p same) ∙ is) in cc)
    cases false is (inr k) later = later k

some_last : (o : Option ℕ) (xs : List ℕ) → is_some o ≡ true → is_some (last_or o xs) ≡ true
some_last o [] some = some
some_last o (y ∷ ys) some = some_last (Some y) ys refl

-- where a line end lies above, there is a cut
cut_there : (ends : List ℕ) (lo max end : ℕ) → Contains ends end → lo < end → is_some (cut_end ends lo max) ≡ true
cut_there ends lo max end h above_lo = ⊎_elim
    (λ far. some_last (find (λ e. nat_lt (lo + max) e) ends) (filter (λ e. nat_lt lo e && nat_le e (lo + max)) ends)
    (find_some (λ e. nat_lt (lo + max) e) ends end h (lt-ltb (lo + max) end far)))
    (λ near. last_some (find (λ e. nat_lt (lo + max) e) ends)
    (filter (λ e. nat_lt lo e && nat_le e (lo + max)) ends) end
    (filter_in (λ e. nat_lt lo e && nat_le e (lo + max)) ends end h
    (and_from _ _ (lt-ltb lo end above_lo) (le-leb end (lo + max) near))))
    (cases_lt (lo + max) end)

cut_reaches : (k : ℕ) (ends : List ℕ) (max lo end : ℕ) → above lo ends ≤ k → Contains ends end → lo < end
    → (s : Span) × Contains (cuts k ends max lo) s × (s.lo < end) × (end ≤ s.hi)
cut_reaches zero ends max lo end enough h low = absurd (let one = one_above lo end ends low h in omega arith)
cut_reaches (suc k) ends max lo end enough h low = cases (cut_end ends lo max) refl
    (λ hi. cut_reaches k ends max hi end)
  where
    cases : (o : Option ℕ) → cut_end ends lo max ≡ o
        → ((hi : ℕ) → above hi ends ≤ k → Contains ends end → hi < end → (s : Span) × Contains (cuts k ends max hi) s
        × (s.lo < end) × (end ≤ s.hi))
        → (s : Span) × Contains (then_cuts lo o (cuts k ends max)) s × (s.lo < end) × (end ≤ s.hi)
    cases None e later = absurd (let no : false ≡ true = sym (ap is_some e) ∙ cut_there ends lo max end h low in cc)
    cases (Some hi) e later = ⊎_elim
        (λ beyond.
        let cut = cut_gives ends lo max hi e in
        let one = one_above lo hi ends cut.1 cut.0 in
        let r = later hi (omega arith) h beyond in
        (r.0, later_in (record { lo = lo; hi = hi }) (cuts k ends max hi) r.0 r.1, r.2, r.3))
        (λ within. (
          record { lo = lo; hi = hi },
          first_in (record { lo = lo; hi = hi }) (cuts k ends max hi)
              (record { lo = lo; hi = hi }) refl,
          low,
          within,
        ))
        (cases_lt hi end)

-- ---- every cut comes in some round

in_range : (a n k : ℕ) → k < n → Contains (range_with_len a n) (a + k)
in_range a zero k below = absurd (omega (arith, below))
in_range a (suc n) zero below = first_in a (range_with_len (a + 1) n) (a + 0)
    (let same : a ≡ a + 0 = omega arith in same)
in_range a (suc n) (suc k) below =
    subst (Contains (range_with_len a (suc n))) (let same : a + 1 + k ≡ a + suc k = omega arith in same)
    (later_in a (range_with_len (a + 1) n) (a + 1 + k) (in_range (a + 1) n k (omega (arith, below))))

long_all : (lists : List (List WorkUnit)) (us : List WorkUnit) → Contains lists us
    → length us ≤ length (flat_map (λ vs. vs) lists)
long_all [] us h = none_in us h
long_all (vs ∷ lists) us h =
    let long = length-append vs (flat_map (λ (ws : List WorkUnit). ws) lists) in
    ⊎_elim (λ e. let same : length vs ≡ length us = ap length e in omega arith)
    (λ k. let later = long_all lists us k in omega arith) (in_cases vs lists us h)

in_some_round : (lists : List (List WorkUnit)) (us : List WorkUnit) (u : WorkUnit) → Contains lists us → Contains us u
    → Contains (in_rounds (length (flat_map (λ vs. vs) lists)) lists) u
in_some_round lists us u h k =
    let at = get_member us u k in
    let below = slice_get_within us at.0 u at.1 in
    let long = long_all lists us h in
    let number : Contains (range_with_len 0 (length (flat_map (λ vs. vs) lists))) at.0 = subst
    (Contains (range_with_len 0 (length (flat_map (λ vs. vs) lists))))
    (let same : 0 + at.0 ≡ at.0 = omega arith in same)
    (in_range 0 (length (flat_map (λ vs. vs) lists)) at.0 (omega arith)) in
    flat_map_in (λ n. flat_map (λ vs. option_to_list (slice_get vs n)) lists)
    (range_with_len 0 (length (flat_map (λ vs. vs) lists))) at.0 u number
    (flat_map_in (λ vs. option_to_list (slice_get vs at.0)) lists us u h
    (subst (λ o. Contains (option_to_list o) u) (sym at.1) (first_in u [] u refl)))

-- ---- how many are new

count_none : (us : List WorkUnit) → ((u : WorkUnit) → Contains us u → u.fresh ≡ false) → count_by (λ u. u.fresh) us ≡ 0
count_none [] none = refl
count_none (u ∷ us) none =
    let here : one_if u.fresh ≡ 0 = ap one_if (none u (first_in u us u refl)) in
    let later = count_none us (λ v h. none v (later_in u us v h)) in
    sum_by-cons (λ (v : WorkUnit). one_if v.fresh) u us ∙ (omega arith)

count_all : (us : List WorkUnit) → ((u : WorkUnit) → Contains us u → u.fresh ≡ true) → count_by (λ u. u.fresh) us
    ≡ length us
count_all [] all = refl
count_all (u ∷ us) all =
    let here : one_if u.fresh ≡ 1 = ap one_if (all u (first_in u us u refl)) in
    let later = count_all us (λ v h. all v (later_in u us v h)) in
    sum_by-cons (λ (v : WorkUnit). one_if v.fresh) u us ∙ (omega arith)

new_is : (s : State) (held : Held) (limits : Limits) → new_count (units_of s held limits)
    ≡ length (new_units s.parts held limits)
unfolding units_of_parts
new_is s held limits =
    let olds = count_none (owed_units s.parts held limits)
    (λ u h. let o = old_member s.parts held limits u h in sym (ap (λ (x : WorkUnit). x.fresh) o.is)) in
    let news = count_all (new_units s.parts held limits)
    (λ u h. let n = new_member s.parts held limits u h in sym (ap (λ (x : WorkUnit). x.fresh) n.is)) in
    sum_by-append (λ (v : WorkUnit). one_if v.fresh) (owed_units s.parts held limits)
    (new_units s.parts held limits) ∙ omega arith

pub reaches : NewUnitsReachTheEnd
unfolding units_of_parts
reaches s held limits = record {
  most =
      let number = new_is s held limits in
      let lists = all_cuts s.parts held limits in
      let all : List WorkUnit = in_rounds (length (flat_map (λ (us : List WorkUnit). us) lists)) lists in
      let taken : length (take limits.max_new_units all)
      ≡ min limits.max_new_units (length all) = length-take limits.max_new_units all in
      omega arith;
  all = λ part bytes end fewer kept at line above_next.
      let number = new_is s held limits in
      let lists = all_cuts s.parts held limits in
      let rounds : List WorkUnit = in_rounds (length (flat_map (λ (us : List WorkUnit). us) lists)) lists in
      let taken : length (take limits.max_new_units rounds)
      ≡ min limits.max_new_units (length rounds) = length-take limits.max_new_units rounds in
      let whole : take limits.max_new_units rounds ≡ rounds = take_all limits.max_new_units rounds (omega arith) in
      let cut = cut_reaches (length (line_ends bytes)) (line_ends bytes) limits.max_bytes (next_of s.parts part) end
      (few_above (next_of s.parts part) (line_ends bytes)) line above_next in
      let u : WorkUnit = new_unit part cut.0 in
      let mine : Contains (cuts_of s.parts limits (part, bytes)) u =
      map_in (new_unit part)
      (cuts (length (line_ends bytes)) (line_ends bytes) limits.max_bytes (next_of s.parts part)) cut.0 cut.1 in
      let listed : Contains lists (cuts_of s.parts limits (part, bytes)) =
      map_in (cuts_of s.parts limits) (kept_parts limits held) (part, bytes)
      (filter_in (λ e. is_kept limits e.0) held (part, bytes) (member_from_at held part bytes at) kept) in
      let there : Contains (new_units s.parts held limits) u = subst (λ us. Contains us u) (sym whole)
      (in_some_round lists (cuts_of s.parts limits (part, bytes)) u listed mine) in (
        u,
        Contains-append_right (owed_units s.parts held limits)
            (new_units s.parts held limits) u there,
        refl,
        refl,
        cut.2,
        cut.3,
      );
}
