-- The units of a run fit the state, and lie on whole lines.
use Rattle.std.proofs.Common.{◌≡◌, ◌≢◌, ◌⊎◌, inl, inr, ⊎_elim, ℕ, zero, suc, ◌+◌, ◌-◌, ◌<◌, ◌≤◌, Bool, true, false}
use Rattle.std.proofs.Common.{cond, ◌&&◌, nat_eq, nat_lt, nat_le, List, [], ◌∷◌, ◌++◌, map, length, take, refl, sym, ap}
use Rattle.std.proofs.Common.{subst, ◌∙◌, append-nil, Some, None, unwrap_or, option_map, is_some, arith}
use Rattle.std.specs.declared.option.Option.{Option}
use Rattle.std.specs.Option.{option_to_list}
use Rattle.std.specs.declared.cmp.Ordering.TheVariants.{Less}
use Rattle.std.specs.List.{Contains, AllByRecursion, IsDistinct, filter, find, last_or, flat_map, range_with_len}
use Rattle.std.specs.List.{slice_get}
use Rattle.std.specs.Str.{bytes_eq}
use Rattle.std.proofs.lemmas.Bool.{and_parts, and_from, ltb-true, ltb-false, lt-ltb, eqb-true}
use Rattle.std.proofs.lemmas.List.Elements.{Contains-append_right, Contains-append_cases, filter-append, All-contains}
use Rattle.gob_bytes.specs.Lines.{line_ends}
use Rattle.gob_bytes.specs.Tables.{Table, at_name, names_of, name_cmp, IsInByteOrder}
use Rattle.gob_bytes.proofs.Tables.{same_name, name_itself, two_names, less_apart, less_then, rising_tail}
use Rattle.gob_bytes.proofs.Tables.{at_from_member, none_below, at_head, at_tail}
use Rattle.gob_device.specs.Supply.{Held}
use Rattle.gob_plan.specs.declared.plan.Limits.{Limits}
use Rattle.gob_plan.specs.declared.units.Unit.{Unit as WorkUnit}
use Rattle.gob_ledger.specs.Marks.{Marks, Span, Tiled, done_spans, spans_of, has, InOrder}
use Rattle.gob_ledger.specs.State.{State, marks_at, TiledState}
use Rattle.gob_ledger.specs.Units.{cut_end, then_cuts, cuts, is_kept, next_of, span_of, new_unit, cuts_of, in_rounds}
use Rattle.gob_ledger.specs.Units.{kept_parts, all_cuts, owed_unit, owed_units, new_units, units_of_parts, units_of}
use Rattle.gob_ledger.specs.Units.{AreAdjacentFrom, fresh_in, same_span, same_unit, is_listed, IsOwed, UnitsFit}
use Rattle.gob_ledger.specs.Archive.{IsLineStart, LiesOnLines, LiesIn, IsWithin}
use Rattle.gob_ledger.specs.Laws.{UnitsFitState, UnitsLieOnLines}
use Rattle.gob_ledger.proofs.Members.{none_in, first_in, later_in, in_cases, in_filter, filter_in, in_map, in_flat_map}
use Rattle.gob_ledger.proofs.Ranges.{order_members, owed_below, done_below, times, covered-is, times-append, within}
use Rattle.gob_ledger.proofs.Attempts.{in_front}

-- what a search gives is one of the list, and passes
find_gives : (p : ℕ → Bool) (xs : List ℕ) (x : ℕ) → find p xs ≡ Some x → Contains xs x × (p x ≡ true)
find_gives p [] x e = absurd (let no : None ≡ Some x = e in cc)
find_gives p (y ∷ ys) x e = cases (p y) refl e (find_gives p ys x)
  where
    cases : (b : Bool) → p y ≡ b → cond b (Some y) (find p ys) ≡ Some x
        → (find p ys ≡ Some x → Contains ys x × (p x ≡ true)) → Contains (y ∷ ys) x × (p x ≡ true)
    cases true is e later = let same : y ≡ x = cc in (first_in y ys x same, sym (ap p same) ∙ is)
    cases false is e later = let r = later e in (later_in y ys x r.0, r.1)

last_gives : (o : Option ℕ) (xs : List ℕ) (x : ℕ) → last_or o xs ≡ Some x → (o ≡ Some x) ⊎ Contains xs x
last_gives o [] x e = inl e
last_gives o (y ∷ ys) x e = ⊎_elim (λ h. inr (first_in y ys x (let same : y ≡ x = cc in same)))
    (λ k. inr (later_in y ys x k)) (last_gives (Some y) ys x e)

-- a cut ends at a line end behind its start
pub cut_gives : (ends : List ℕ) (lo max hi : ℕ) → cut_end ends lo max ≡ Some hi → Contains ends hi × (lo < hi)
cut_gives ends lo max hi e = ⊎_elim
    (λ h. let r = find_gives (λ x. nat_lt (lo + max) x) ends hi h in
    (r.0, let b : lo + max < hi = ltb-true (lo + max) hi r.1 in omega arith))
    (λ k. let r = in_filter (λ x. nat_lt lo x && nat_le x (lo + max)) ends hi k in
    (r.0, ltb-true lo hi (and_parts (nat_lt lo hi) (nat_le hi (lo + max)) r.1).0))
    (last_gives (find (λ x. nat_lt (lo + max) x) ends) (filter (λ x. nat_lt lo x && nat_le x (lo + max)) ends) hi e)

abbrev new_all : List ℕ → List Span → List WorkUnit
new_all part ss = map (new_unit part) ss

cuts_follow : (k : ℕ) (ends : List ℕ) (max lo : ℕ) (part : List ℕ)
    → AreAdjacentFrom lo (new_all part (cuts k ends max lo))
cuts_follow zero ends max lo part = tt
cuts_follow (suc k) ends max lo part = cases (cut_end ends lo max) refl (λ hi. cuts_follow k ends max hi part)
  where
    cases : (o : Option ℕ) → cut_end ends lo max ≡ o → ((hi : ℕ)
        → AreAdjacentFrom hi (new_all part (cuts k ends max hi)))
        → AreAdjacentFrom lo (new_all part (then_cuts lo o (cuts k ends max)))
    cases None e later = tt
    cases (Some hi) e later = (refl, (cut_gives ends lo max hi e).1, later hi)

-- a cut begins where the first did or at a line end, and ends at one
pub cuts_lie : (k : ℕ) (ends : List ℕ) (max lo : ℕ) (s : Span) → Contains (cuts k ends max lo) s
    → ((s.lo ≡ lo) ⊎ Contains ends s.lo) × Contains ends s.hi
cuts_lie zero ends max lo s h = none_in s h
cuts_lie (suc k) ends max lo s h = cases (cut_end ends lo max) refl h (λ hi l. cuts_lie k ends max hi s l)
  where
    cases : (o : Option ℕ) → cut_end ends lo max ≡ o → Contains (then_cuts lo o (cuts k ends max)) s
        → ((hi : ℕ) → Contains (cuts k ends max hi) s → ((s.lo ≡ hi) ⊎ Contains ends s.lo) × Contains ends s.hi)
        → ((s.lo ≡ lo) ⊎ Contains ends s.lo) × Contains ends s.hi
    cases None e h later = none_in s h
    cases (Some hi) e h later = ⊎_elim
        (λ same. (
          inl (sym (ap (λ (x : Span). x.lo) same)),
          subst (Contains ends) (ap (λ (x : Span). x.hi) same)
              (cut_gives ends lo max hi e).0,
        ))
        (λ l. let r = later hi l in (
          inr (⊎_elim (λ at. subst (Contains ends) (sym at) (cut_gives ends lo max hi e).0)
              (λ c. c) r.0),
          r.1,
        ))
        (in_cases (record { lo = lo; hi = hi }) (cuts k ends max hi) s h)

-- ---- fronts

follow_take : (from n : ℕ) (us : List WorkUnit) → AreAdjacentFrom from us → AreAdjacentFrom from (take n us)
follow_take from zero us f = tt
follow_take from (suc n) [] f = tt
follow_take from (suc n) (u ∷ us) (a, b, c) = (a, b, follow_take u.hi n us c)

filter_take : (p : WorkUnit → Bool) (n : ℕ) (us : List WorkUnit) → (m : ℕ)
    × (filter p (take n us) ≡ take m (filter p us))
filter_take p zero us = (0, refl)
filter_take p (suc n) [] = (0, refl)
filter_take p (suc n) (u ∷ us) = elim (p u) as (λ b. (m : ℕ) ×
    (cond b (u ∷ filter p (take n us)) (filter p (take n us)) ≡ take m (cond b (u ∷ filter p us) (filter p us)))) [
      | true ↦ (suc (filter_take p n us).0, ap (λ (vs : List WorkUnit). u ∷ vs) (filter_take p n us).1)
      | false ↦ filter_take p n us
    ]

filter_flat : {X : Type 0} (p : WorkUnit → Bool) (f : X → List WorkUnit) (xs : List X)
    → filter p (flat_map f xs) ≡ flat_map (λ x. filter p (f x)) xs
filter_flat p f [] = refl
filter_flat p f (x ∷ xs) = filter-append p (f x) (flat_map f xs) ∙ ap (λ ys. filter p (f x) ++ ys) (filter_flat p f xs)

flat_same : {X Y : Type 0} (f g : X → List Y) (xs : List X) → ((x : X) → f x ≡ g x) → flat_map f xs ≡ flat_map g xs
flat_same f g [] same = refl
flat_same f g (x ∷ xs) same = λ i. same x i ++ flat_same f g xs same i

-- ---- rounds, seen from one partition

abbrev pick : ℕ → List WorkUnit → List WorkUnit
pick k us = option_to_list (slice_get us k)

at_zero : (a : ℕ) → a ≡ a + 0
at_zero a = omega arith

next_is : (a k : ℕ) → a + 1 + k ≡ a + suc k
next_is a k = omega arith

take_none : (n : ℕ) → take {A = WorkUnit} n [] ≡ []
take_none zero = refl
take_none (suc n) = refl

-- the members of a list from a place on, as many as there are rounds
picks_take : (from n : ℕ) (us vs : List WorkUnit) → ((k : ℕ) → slice_get us (from + k) ≡ slice_get vs k)
    → flat_map (λ k. pick k us) (range_with_len from n) ≡ take n vs
picks_take from zero us vs same = refl
picks_take from (suc n) us [] same =
    ap (λ o. option_to_list o ++ flat_map (λ k. pick k us) (range_with_len (from + 1) n))
    (ap (slice_get us) (at_zero from) ∙ same 0)
    ∙ (picks_take (from + 1) n us [] (λ k. ap (slice_get us) (next_is from k) ∙ same (suc k)) ∙ take_none n)
picks_take from (suc n) us (v ∷ vs) same =
    ap (λ o. option_to_list o ++ flat_map (λ k. pick k us) (range_with_len (from + 1) n))
    (ap (slice_get us) (at_zero from) ∙ same 0)
    ∙ ap (λ (ws : List WorkUnit). v ∷ ws) (picks_take (from + 1) n us vs
    (λ k. ap (slice_get us) (next_is from k) ∙ same (suc k)))

abbrev pub is_new_in : List ℕ → WorkUnit → Bool
is_new_in q u = u.fresh && bytes_eq u.part q

none_either : (b : Bool) (us : List WorkUnit) → us ≡ [] → cond b us [] ≡ us
none_either true us e = refl
none_either false us e = sym e

pick_new : (part q : List ℕ) (k : ℕ) (ss : List Span) → filter (is_new_in q) (pick k (new_all part ss)) ≡ cond
    (bytes_eq part q) (pick k (new_all part ss)) []
pick_new part q k [] = sym (none_either (bytes_eq part q) [] refl)
pick_new part q zero (s ∷ ss) = refl
pick_new part q (suc k) (s ∷ ss) = pick_new part q k ss

-- the cuts of one partition of a table
abbrev pub cuts_at : Table Marks → Limits → Held → List ℕ → List WorkUnit
cuts_at parts limits kept q = unwrap_or (option_map (λ bytes. cuts_of parts limits (q, bytes)) (at_name kept q)) []

pub turned : (x y : List ℕ) → bytes_eq x y ≡ false → bytes_eq y x ≡ false
turned x y e = elim (bytes_eq y x) as (λ b. bytes_eq y x ≡ b → b ≡ false) [
  | true ↦ λ f. let back : bytes_eq x y ≡ true = subst (λ z. bytes_eq x z ≡ true) (sym (same_name y x f))
      (name_itself x) in cc
  | false ↦ λ f. refl
] refl

entries_pick : (parts : Table Marks) (limits : Limits) (es : Held) (q : List ℕ) (k : ℕ) → IsInByteOrder (names_of es)
    → flat_map (λ e. cond (bytes_eq e.0 q) (pick k (cuts_of parts limits e)) []) es ≡ pick k (cuts_at parts limits es q)
entries_pick parts limits [] q k rising = refl
entries_pick parts limits (e ∷ es) q k rising = cases (bytes_eq e.0 q) refl
    (entries_pick parts limits es q k (rising_tail e.0 (names_of es) rising))
  where
    cases : (b : Bool) → bytes_eq e.0 q ≡ b → flat_map (λ d. cond (bytes_eq d.0 q) (pick k (cuts_of parts limits d)) [])
        es ≡ pick k (cuts_at parts limits es q)
        → cond b (pick k (cuts_of parts limits e)) [] ++ flat_map
        (λ d. cond (bytes_eq d.0 q) (pick k (cuts_of parts limits d)) []) es ≡ pick k
        (cuts_at parts limits (e ∷ es) q)
    cases true is later =
        let same : e.0 ≡ q = same_name e.0 q is in
        let gone : at_name es q ≡ None = subst (λ n. at_name es n ≡ None) same (none_below es e.0 rising) in
        let here : at_name (e ∷ es) q ≡ Some e.1 = subst (λ n. at_name (e ∷ es) n ≡ Some e.1) same (at_head e es) in
        ap (λ us. pick k (cuts_of parts limits e) ++ us) (later
        ∙ ap (λ o. pick k (unwrap_or (option_map (λ bytes. cuts_of parts limits (q, bytes)) o) [])) gone)
        ∙ (append-nil (pick k (cuts_of parts limits e))
        ∙ (ap (λ n. pick k (cuts_of parts limits (n, e.1))) same
        ∙ sym (ap (λ o. pick k (unwrap_or (option_map (λ bytes. cuts_of parts limits (q, bytes)) o) [])) here)))
    cases false is later =
        later ∙ sym (ap (λ o. pick k (unwrap_or (option_map (λ bytes. cuts_of parts limits (q, bytes)) o) []))
        (at_tail e es q (turned e.0 q is)))

flat_over_map : {X Y Z : Type 0} (f : Y → List Z) (g : X → Y) (xs : List X)
    → flat_map f (map g xs) ≡ flat_map (λ x. f (g x)) xs
flat_over_map f g [] = refl
flat_over_map f g (x ∷ xs) = ap (λ ys. f (g x) ++ ys) (flat_over_map f g xs)

-- the rounds, seen from one partition, are its cuts
rounds_in : (parts : Table Marks) (limits : Limits) (kept : Held) (q : List ℕ) (n : ℕ) → IsInByteOrder (names_of kept)
    → filter (is_new_in q) (in_rounds n (map (cuts_of parts limits) kept)) ≡ take n (cuts_at parts limits kept q)
rounds_in parts limits kept q n rising =
    filter_flat (is_new_in q) (λ k. flat_map (pick k) (map (cuts_of parts limits) kept)) (range_with_len 0 n)
    ∙ (flat_same (λ k. filter (is_new_in q) (flat_map (pick k) (map (cuts_of parts limits) kept)))
    (λ k. pick k (cuts_at parts limits kept q)) (range_with_len 0 n) one_round
    ∙ picks_take 0 n (cuts_at parts limits kept q) (cuts_at parts limits kept q)
    (λ k. ap (slice_get (cuts_at parts limits kept q)) (from_zero k)))
  where
    from_zero : (k : ℕ) → 0 + k ≡ k
    from_zero k = omega arith

    one_entry : (k : ℕ) (e : List ℕ × List ℕ) → filter (is_new_in q) (pick k (cuts_of parts limits e)) ≡ cond
        (bytes_eq e.0 q) (pick k (cuts_of parts limits e)) []
    one_entry k e = pick_new e.0 q k (cuts (length (line_ends e.1)) (line_ends e.1) limits.max_bytes
        (next_of parts e.0))

    one_round : (k : ℕ) → filter (is_new_in q) (flat_map (pick k) (map (cuts_of parts limits) kept)) ≡ pick k
        (cuts_at parts limits kept q)
    one_round k =
        ap (filter (is_new_in q)) (flat_over_map (pick k) (cuts_of parts limits) kept)
        ∙ (filter_flat (is_new_in q) (λ e. pick k (cuts_of parts limits e)) kept
        ∙ (flat_same (λ e. filter (is_new_in q) (pick k (cuts_of parts limits e)))
        (λ e. cond (bytes_eq e.0 q) (pick k (cuts_of parts limits e)) []) kept (one_entry k)
        ∙ entries_pick parts limits kept q k rising))

-- ---- order of names through a filter

rising_under : {X : Type 0} (p : List ℕ × X → Bool) (t : Table X) (low : List ℕ) → IsInByteOrder (low ∷ names_of t)
    → IsInByteOrder (low ∷ names_of (filter p t))
rising_under p [] low rising = tt
rising_under {X} p (e ∷ es) low rising = elim (p e) as (λ b. IsInByteOrder
    (low ∷ names_of (cond b (e ∷ filter p es) (filter p es)))) [
      | true ↦ (rising.0, rising_under p es e.0 rising.1)
      | false ↦ rising_under p es low (lower es rising)
    ]
  where
    lower : (ds : Table X) → (name_cmp low e.0 ≡ Less) × IsInByteOrder (e.0 ∷ names_of ds)
        → IsInByteOrder (low ∷ names_of ds)
    lower [] r = tt
    lower (d ∷ ds) r = (less_then low e.0 d.0 r.0 r.1.0, r.1.1)

pub rising_filter : {X : Type 0} (p : List ℕ × X → Bool) (t : Table X) → IsInByteOrder (names_of t)
    → IsInByteOrder (names_of (filter p t))
rising_filter p [] rising = tt
rising_filter p (e ∷ es) rising = elim (p e) as (λ b. IsInByteOrder
    (names_of (cond b (e ∷ filter p es) (filter p es)))) [
      | true ↦ rising_under p es e.0 rising
      | false ↦ rising_filter p es (rising_tail e.0 (names_of es) rising)
    ]

below_all : {X : Type 0} (t : Table X) (low : List ℕ) (e : List ℕ × X) → IsInByteOrder (low ∷ names_of t) → Contains t e
    → name_cmp low e.0 ≡ Less
below_all [] low e rising h = none_in e h
below_all {X} (d ∷ ds) low e rising h = ⊎_elim
    (λ same. subst (λ (x : List ℕ × X). name_cmp low x.0 ≡ Less) same rising.0)
    (λ k. less_then low d.0 e.0 rising.0 (below_all ds d.0 e rising.1 k))
    (in_cases d ds e h)

-- ---- members

pick_in : (k : ℕ) (us : List WorkUnit) (u : WorkUnit) → Contains (pick k us) u → Contains us u
pick_in k [] u h = none_in u h
pick_in zero (v ∷ us) u h = ⊎_elim (λ e. first_in v us u e) (λ l. none_in u l) (in_cases v [] u h)
pick_in (suc k) (v ∷ us) u h = later_in v us u (pick_in k us u h)

-- a new unit is a cut of a kept partition
pub record NewCut (parts : Table Marks) (held : Held) (limits : Limits) (u : WorkUnit) : Type 0 where
  pub entry : List ℕ × List ℕ
  pub kept : Contains held entry
  pub taken : is_kept limits entry.0 ≡ true
  pub span : Span
  pub cut : Contains (cuts (length (line_ends entry.1)) (line_ends entry.1) limits.max_bytes (next_of parts entry.0))
      span
  pub is : new_unit entry.0 span ≡ u

pub new_member : (parts : Table Marks) (held : Held) (limits : Limits) (u : WorkUnit)
    → Contains (new_units parts held limits) u → NewCut parts held limits u
new_member parts held limits u h =
    let lists = all_cuts parts held limits in
    let rounds = length (flat_map (λ (xs : List WorkUnit). xs) lists) in
    let a = in_flat_map (λ k. flat_map (pick k) lists) (range_with_len 0 rounds) u
    (in_front limits.max_new_units (in_rounds rounds lists) u h) in
    let b = in_flat_map (pick a.0) lists u a.2 in
    let c = in_map (cuts_of parts limits) (kept_parts limits held) b.0 b.1 in
    let there : Contains (cuts_of parts limits c.0) u = subst (λ us. Contains us u) (sym c.2) (pick_in a.0 b.0 u b.2) in
    let d = in_map (new_unit c.0.0) (cuts (length (line_ends c.0.1)) (line_ends c.0.1) limits.max_bytes
    (next_of parts c.0.0)) u there in
    let e = in_filter (λ e. is_kept limits e.0) held c.0 c.1 in
    record { entry = c.0; kept = e.0; taken = e.1; span = d.0; cut = d.1; is = d.2 }

-- an open range as a unit, where the partitions that are listed are known
abbrev pub range_unit : (List ℕ → Bool) → List ℕ → Span → WorkUnit
range_unit listed part s = record { part = part; lo = s.lo; hi = s.hi; fresh = false; listed = listed part }

-- the open ranges, by partition and offset
abbrev pub range_units : (List ℕ → Bool) → Table Marks → List WorkUnit
range_units listed parts = flat_map (λ e. map (range_unit listed e.0) e.1.owed) parts

pub record OldRange (listed : List ℕ → Bool) (parts : Table Marks) (u : WorkUnit) : Type 0 where
  pub entry : List ℕ × Marks
  pub there : Contains parts entry
  pub span : Span
  pub owed : Contains entry.1.owed span
  pub is : range_unit listed entry.0 span ≡ u

pub range_member : (listed : List ℕ → Bool) (parts : Table Marks) (u : WorkUnit) → Contains (range_units listed parts) u
    → OldRange listed parts u
range_member listed parts u h =
    let a = in_flat_map (λ e. map (range_unit listed e.0) e.1.owed) parts u h in
    let b = in_map (range_unit listed a.0.0) a.0.1.owed u a.2 in
    record { entry = a.0; there = a.1; span = b.0; owed = b.1; is = b.2 }

pub old_member : (parts : Table Marks) (held : Held) (limits : Limits) (u : WorkUnit)
    → Contains (owed_units parts held limits) u → OldRange (is_listed held limits) parts u
old_member parts held limits u h = range_member (is_listed held limits) parts u h

-- ---- no unit stands twice

distinct_join : (us vs : List WorkUnit) → IsDistinct same_unit us → IsDistinct same_unit vs
    → ((u v : WorkUnit) → Contains us u → Contains vs v → same_unit u v ≡ false) → IsDistinct same_unit (us ++ vs)
unfolding IsDistinct
distinct_join [] vs a b apart = b
distinct_join (u ∷ us) vs a b apart = (
  all_join us vs u a.0 (λ v h. apart u v (first_in u us u refl) h),
  distinct_join us vs a.1 b (λ x y h k. apart x y (later_in u us x h) k),
)
  where
    all_by : (ws : List WorkUnit) (x : WorkUnit) → ((v : WorkUnit) → Contains ws v → same_unit x v ≡ false)
        → AllByRecursion (λ y. same_unit x y ≡ false) ws
    all_by [] x f = tt
    all_by (w ∷ ws) x f = (f w (first_in w ws w refl), all_by ws x (λ v h. f v (later_in w ws v h)))

    all_join : (ws zs : List WorkUnit) (x : WorkUnit) → AllByRecursion (λ y. same_unit x y ≡ false) ws
        → ((v : WorkUnit) → Contains zs v → same_unit x v ≡ false)
        → AllByRecursion (λ y. same_unit x y ≡ false) (ws ++ zs)
    all_join [] zs x a f = all_by zs x f
    all_join (w ∷ ws) zs x a f = (a.0, all_join ws zs x a.1 f)

other_part : (u v : WorkUnit) → u.part ≢ v.part → same_unit u v ≡ false
other_part u v apart = ap (λ b. b && same_span (span_of u) (span_of v)) (two_names u.part v.part apart)

other_lo : (u v : WorkUnit) → u.lo < v.lo → same_unit u v ≡ false
other_lo u v below = elim (same_unit u v) as (λ b. same_unit u v ≡ b → b ≡ false) [
  | true ↦ λ e. absurd (let spans : same_span (span_of u) (span_of v) ≡ true =
      (and_parts (bytes_eq u.part v.part) (same_span (span_of u) (span_of v)) e).1 in
      let same : u.lo ≡ v.lo = eqb-true u.lo v.lo (and_parts (nat_eq u.lo v.lo) (nat_eq u.hi v.hi) spans).0 in
      omega arith)
  | false ↦ λ e. refl
] refl

pub follow_above : (from : ℕ) (us : List WorkUnit) (u : WorkUnit) → AreAdjacentFrom from us → Contains us u
    → (from ≤ u.lo) × (u.lo < u.hi)
follow_above from [] u f h = none_in u h
follow_above from (v ∷ vs) u (a, b, c) h = ⊎_elim
    (λ same. subst (λ (x : WorkUnit). (from ≤ x.lo) × (x.lo < x.hi)) same (omega arith, b))
    (λ k. let r = follow_above v.hi vs u c k in (omega (arith, r.0), r.1))
    (in_cases v vs u h)

-- units that are all fresh, and in each partition follow each other, are distinct
abbrev Runs : List WorkUnit → Type 0
Runs us = (q : List ℕ) → (from : ℕ) × AreAdjacentFrom from (fresh_in q us)

runs_distinct : (us : List WorkUnit) → ((u : WorkUnit) → Contains us u → u.fresh ≡ true) → Runs us
    → IsDistinct same_unit us
unfolding IsDistinct
runs_distinct [] fresh runs = tt
runs_distinct (u ∷ us) fresh runs = (
  all_apart us (λ v h. h),
  runs_distinct us (λ v h. fresh v (later_in u us v h)) rest,
)
  where
    test : (b : Bool) (q : List ℕ) → bytes_eq u.part q ≡ b → fresh_in q (u ∷ us) ≡ cond b (u ∷ fresh_in q us)
        (fresh_in q us)
    test b q e = ap (λ v. cond v (u ∷ fresh_in q us) (fresh_in q us))
        (ap (λ v. v && bytes_eq u.part q) (fresh u (first_in u us u refl)) ∙ e)

    here : AreAdjacentFrom (runs u.part).0 (u ∷ fresh_in u.part us)
    here = subst (AreAdjacentFrom (runs u.part).0) (test true u.part (name_itself u.part)) (runs u.part).1

    rest : Runs us
    rest q = elim (bytes_eq u.part q) as (λ b. bytes_eq u.part q ≡ b → (from : ℕ)
        × AreAdjacentFrom from (fresh_in q us)) [
          | true ↦ λ e. (u.hi, (subst (AreAdjacentFrom (runs q).0) (test true q e) (runs q).1).2)
          | false ↦ λ e. ((runs q).0, subst (AreAdjacentFrom (runs q).0) (test false q e) (runs q).1)
        ] refl

    apart : (v : WorkUnit) → Contains us v → same_unit u v ≡ false
    apart v h = elim (bytes_eq u.part v.part) as (λ b. bytes_eq u.part v.part ≡ b → same_unit u v ≡ false) [
      | true ↦ λ e.
          let in_it : Contains (fresh_in u.part us) v = filter_in (is_new_in u.part) us v h
          (and_from _ _ (fresh v (later_in u us v h)) (subst (λ x. bytes_eq x u.part ≡ true)
          (same_name u.part v.part e) (name_itself u.part))) in
          let above = follow_above u.hi (fresh_in u.part us) v here.2 in_it in
          other_lo u v (let b = here.1 in let c = above.0 in omega arith)
      | false ↦ λ e. ap (λ b. b && same_span (span_of u) (span_of v)) e
    ] refl

    all_apart : (ws : List WorkUnit) → ((v : WorkUnit) → Contains ws v → Contains us v)
        → AllByRecursion (λ y. same_unit u y ≡ false) ws
    all_apart [] sub = tt
    all_apart (w ∷ ws) sub = (apart w (sub w (first_in w ws w refl)), all_apart ws (λ v h. sub v (later_in w ws v h)))

-- the owed units of one partition, and of all
owed_distinct : (listed : List ℕ → Bool) (part : List ℕ) (from : ℕ) (ss : List Span) → InOrder from ss
    → IsDistinct same_unit (map (range_unit listed part) ss)
unfolding IsDistinct
owed_distinct listed part from [] order = tt
owed_distinct listed part from (s ∷ ss) (a, b, c) = (all_apart ss (λ t h. h), owed_distinct listed part s.hi ss c)
  where
    all_apart : (ts : List Span) → ((t : Span) → Contains ts t → Contains ss t)
        → AllByRecursion (λ y. same_unit (range_unit listed part s) y ≡ false) (map (range_unit listed part) ts)
    all_apart [] sub = tt
    all_apart (t ∷ ts) sub = (
      other_lo (range_unit listed part s) (range_unit listed part t)
          (let above = (order_members s.hi ss t c (sub t (first_in t ts t refl))).0 in omega (arith, above)),
      all_apart ts (λ x h. sub x (later_in t ts x h)),
    )

owed_all_distinct : (listed : List ℕ → Bool) (parts : Table Marks) → IsInByteOrder (names_of parts)
    → ((e : List ℕ × Marks) → Contains parts e → InOrder 0 e.1.owed) → IsDistinct same_unit (range_units listed parts)
unfolding IsDistinct
owed_all_distinct listed [] rising order = tt
owed_all_distinct listed (e ∷ es) rising order =
    distinct_join (map (range_unit listed e.0) e.1.owed) (range_units listed es)
    (owed_distinct listed e.0 0 e.1.owed (order e (first_in e es e refl)))
    (owed_all_distinct listed es (rising_tail e.0 (names_of es) rising) (λ d h. order d (later_in e es d h)))
    (λ u v h k.
    let a = in_map (range_unit listed e.0) e.1.owed u h in
    let b = range_member listed es v k in
    let up : e.0 ≡ u.part = ap (λ (x : WorkUnit). x.part) a.2 in
    let vp : b.entry.0 ≡ v.part = ap (λ (x : WorkUnit). x.part) b.is in
    other_part u v (λ same. less_apart e.0 b.entry.0 (below_all es e.0 b.entry rising b.there) (up ∙ (same ∙ sym vp))))

none_fresh : (listed : List ℕ → Bool) (q part : List ℕ) (ss : List Span)
    → fresh_in q (map (range_unit listed part) ss) ≡ []
none_fresh listed q part [] = refl
none_fresh listed q part (s ∷ ss) = none_fresh listed q part ss

no_fresh : (listed : List ℕ → Bool) (q : List ℕ) (parts : Table Marks) → fresh_in q (range_units listed parts) ≡ []
no_fresh listed q [] = refl
no_fresh listed q (e ∷ es) = filter-append (is_new_in q) (map (range_unit listed e.0) e.1.owed) (range_units listed es)
    ∙ λ i. none_fresh listed q e.0 e.1.owed i ++ no_fresh listed q es i

-- the new units of one partition follow each other from its next
pub new_follow : (parts : Table Marks) (held : Held) (limits : Limits) (q : List ℕ) → IsInByteOrder (names_of held)
    → AreAdjacentFrom (next_of parts q) (fresh_in q (new_units parts held limits))
new_follow parts held limits q rising =
    let lists = all_cuts parts held limits in
    let rounds = length (flat_map (λ (xs : List WorkUnit). xs) lists) in
    let cut = filter_take (is_new_in q) limits.max_new_units (in_rounds rounds lists) in
    let all = rounds_in parts limits (kept_parts limits held) q rounds
    (rising_filter (λ e. is_kept limits e.0) held rising) in
    subst (AreAdjacentFrom (next_of parts q)) (sym (cut.1 ∙ ap (take cut.0) all))
    (follow_take (next_of parts q) cut.0 _ (follow_take (next_of parts q) rounds
    (cuts_at parts limits (kept_parts limits held) q) (at_follow (at_name (kept_parts limits held) q))))
  where
    at_follow : (o : Option (List ℕ)) → AreAdjacentFrom (next_of parts q)
        (unwrap_or (option_map (λ bytes. cuts_of parts limits (q, bytes)) o) [])
    at_follow None = tt
    at_follow (Some bytes) = cuts_follow (length (line_ends bytes)) (line_ends bytes) limits.max_bytes (next_of parts q)
        q

pub next_at : (s : State) (part : List ℕ) (m : Marks) → marks_at s part ≡ Some m → next_of s.parts part ≡ m.next
next_at s part m e = ap (λ o. unwrap_or (option_map (λ (x : Marks). x.next) o) 0) e

-- the open ranges fit, with new units that follow each other in each partition from its next
pub owed_and_new_fit : (listed : List ℕ → Bool) (parts : Table Marks) (new : List WorkUnit)
    → IsInByteOrder (names_of parts)
    → ((part : List ℕ) (m : Marks) → at_name parts part ≡ Some m → Tiled m)
    → ((u : WorkUnit) → Contains new u → u.fresh ≡ true)
    → ((q : List ℕ) → AreAdjacentFrom (next_of parts q) (fresh_in q new))
    → UnitsFit parts (range_units listed parts ++ new)
owed_and_new_fit listed parts new rising tiled fresh follow = record {
  once = distinct_join (range_units listed parts) new
      (owed_all_distinct listed parts rising (λ e h. (tiled e.0 e.1 (at_from_member parts e.0 e.1 rising h)).owed))
      (runs_distinct new fresh (λ q. (next_of parts q, follow q)))
      cross;
  owed = λ u h old. ⊎_elim (λ k. is_owed u k) (λ k. absurd (let f : u.fresh ≡ true = fresh u k in cc))
      (Contains-append_cases (range_units listed parts) new u h);
  fresh = λ q. subst (AreAdjacentFrom (next_of parts q)) (sym
      (filter-append (is_new_in q) (range_units listed parts) new
      ∙ ap (λ us. us ++ fresh_in q new) (no_fresh listed q parts))) (follow q);
}
  where
    is_owed : (u : WorkUnit) → Contains (range_units listed parts) u → IsOwed parts u
    is_owed u h =
        let o = range_member listed parts u h in
        subst (IsOwed parts) o.is (o.entry.1, at_from_member parts o.entry.0 o.entry.1 rising o.there, o.owed)

    cross : (u v : WorkUnit) → Contains (range_units listed parts) u → Contains new v → same_unit u v ≡ false
    cross u v h k = elim (bytes_eq u.part v.part) as (λ b. bytes_eq u.part v.part ≡ b → same_unit u v ≡ false) [
      | false ↦ λ e. ap (λ b. b && same_span (span_of u) (span_of v)) e
      | true ↦ λ e.
          let o = is_owed u h in
          let same = same_name u.part v.part e in
          let low = owed_below o.0 (tiled u.part o.0 o.1) (span_of u) o.2 in
          let some = (order_members 0 o.0.owed (span_of u) (tiled u.part o.0 o.1).owed o.2).1 in
          let in_it : Contains (fresh_in v.part new) v = filter_in (is_new_in v.part) new v k
          (and_from _ _ (fresh v k) (name_itself v.part)) in
          let high = (follow_above (next_of parts v.part) (fresh_in v.part new) v (follow v.part) in_it).0 in
          let next : next_of parts v.part ≡ o.0.next = ap (next_of parts) (sym same)
          ∙ ap (λ p. unwrap_or (option_map (λ (x : Marks). x.next) p) 0) o.1 in
          other_lo u v (omega (arith, low, some, high))
    ] refl

pub units_fit : UnitsFitState
unfolding units_of_parts
units_fit s held limits tiled rising order =
    owed_and_new_fit (is_listed held limits) s.parts (new_units s.parts held limits) rising tiled.tiled
    (λ u h. let n = new_member s.parts held limits u h in sym (ap (λ (x : WorkUnit). x.fresh) n.is))
    (λ q. new_follow s.parts held limits q order)

-- ---- whole lines

pub times_gives : (at : ℕ) (ss : List Span) → 1 ≤ times at ss → (s : Span) × Contains ss s × (has at s ≡ true)
times_gives at [] some = absurd (omega (arith, some))
times_gives at (s ∷ ss) some = cases (has at s) refl some (times_gives at ss)
  where
    cases : (b : Bool) → has at s ≡ b → 1 ≤ cond b 1 0 + times at ss
        → (1 ≤ times at ss → (t : Span) × Contains ss t × (has at t ≡ true)) → (t : Span) × Contains (s ∷ ss) t
        × (has at t ≡ true)
    cases true is some later = (s, first_in s ss s refl, is)
    cases false is some later = let r = later (omega (arith, some)) in (r.0, later_in s ss r.0 r.1, r.2)

-- next is where a line begins
next_starts : (m : Marks) (bytes : List ℕ) → Tiled m → LiesIn bytes m → IsLineStart bytes m.next
next_starts m bytes tiled lies = elim (nat_lt 0 m.next) as (λ b. nat_lt 0 m.next ≡ b → IsLineStart bytes m.next) [
  | false ↦ λ e. inl (let z : m.next ≤ 0 = ltb-false 0 m.next e in omega arith)
  | true ↦ λ e.
      let some : 0 < m.next = ltb-true 0 m.next e in
      let at : ℕ = m.next - 1 in
      let once : times at (done_spans m) + times at m.owed ≡ cond (nat_lt at m.next) 1 0 = sym (covered-is at m)
      ∙ tiled.once at in
      let in_one : cond (nat_lt at m.next) 1 0 ≡ 1 = ap (λ b. cond b 1 0) (lt-ltb at m.next (omega (arith, some))) in
      let all : times at (spans_of m) ≡ 1 = times-append at (done_spans m) m.owed ∙ (once ∙ in_one) in
      let there = times_gives at (spans_of m) (subst (λ n. 1 ≤ n) (sym all) (omega arith)) in
      let above : at < there.0.hi = (within at there.0 there.2).1 in
      let below : there.0.hi ≤ m.next = ⊎_elim (λ h. (done_below m tiled there.0 h).1)
      (λ h. owed_below m tiled there.0 h) (Contains-append_cases (done_spans m) m.owed there.0 there.1) in
      let ends : there.0.hi ≡ m.next = omega (arith, some, above, below) in
      inr (subst (Contains (line_ends bytes)) ends (All-contains (LiesOnLines bytes) (spans_of m) there.0 lies.lines
      there.1).hi)
] refl

some_is : {A : Type 0} (o : Option A) → is_some o ≡ true → (x : A) × (o ≡ Some x)
some_is None e = absurd (let no : false ≡ true = e in cc)
some_is (Some x) e = (x, refl)

next_of_starts : (archive : Held) (s : State) (part bytes : List ℕ) → IsWithin archive s → TiledState s
    → at_name archive part ≡ Some bytes → IsLineStart bytes (next_of s.parts part)
next_of_starts archive s part bytes lies tiled at = cases (marks_at s part) refl
  where
    cases : (o : Option Marks) → marks_at s part ≡ o → IsLineStart bytes
        (unwrap_or (option_map (λ (m : Marks). m.next) o) 0)
    cases None e = inl refl
    cases (Some m) e =
        let w = lies part m e in
        let same : w.0 ≡ bytes = let h : Some w.0 ≡ Some bytes = sym w.1 ∙ at in cc in
        next_starts m bytes (tiled.tiled part m e) (subst (λ b. LiesIn b m) same w.2)

pub units_lie : UnitsLieOnLines
unfolding units_of_parts
units_lie archive held s limits u agrees lies tiled rising order h listed =
    ⊎_elim old new (Contains-append_cases (owed_units s.parts held limits) (new_units s.parts held limits) u h)
  where
    old : Contains (owed_units s.parts held limits) u → (bytes : List ℕ) × (at_name held u.part ≡ Some bytes)
        × LiesOnLines bytes (span_of u)
    old k =
        let o = old_member s.parts held limits u k in
        let there : is_some (at_name held o.entry.0) ≡ true =
        (and_parts (is_some (at_name held o.entry.0)) (is_kept limits o.entry.0)
        (ap (λ (x : WorkUnit). x.listed) o.is ∙ listed)).0 in
        let b = some_is (at_name held o.entry.0) there in
        let w = lies o.entry.0 o.entry.1 (at_from_member s.parts o.entry.0 o.entry.1 rising o.there) in
        let same : w.0 ≡ b.0 = let e : Some w.0 ≡ Some b.0 = sym w.1 ∙ agrees o.entry.0 b.0 b.1 in cc in
        let line : LiesOnLines b.0 o.span = subst (λ x. LiesOnLines x o.span) same
        (All-contains (LiesOnLines w.0) (spans_of o.entry.1) o.span w.2.lines
        (Contains-append_right (done_spans o.entry.1) o.entry.1.owed o.span o.owed)) in
        subst (λ (x : WorkUnit). (bytes : List ℕ) × (at_name held x.part ≡ Some bytes) × LiesOnLines bytes (span_of x))
        o.is (b.0, b.1, line)

    new : Contains (new_units s.parts held limits) u → (bytes : List ℕ) × (at_name held u.part ≡ Some bytes)
        × LiesOnLines bytes (span_of u)
    new k =
        let n = new_member s.parts held limits u k in
        let at = at_from_member held n.entry.0 n.entry.1 order n.kept in
        let c = cuts_lie (length (line_ends n.entry.1)) (line_ends n.entry.1) limits.max_bytes
        (next_of s.parts n.entry.0) n.span n.cut in
        let lo : IsLineStart n.entry.1 n.span.lo = ⊎_elim
        (λ e. subst (IsLineStart n.entry.1) (sym e) (next_of_starts archive s n.entry.0 n.entry.1 lies tiled
        (agrees n.entry.0 n.entry.1 at)))
        (λ e. inr e) c.0 in
        subst (λ (x : WorkUnit). (bytes : List ℕ) × (at_name held x.part ≡ Some bytes) × LiesOnLines bytes (span_of x))
        n.is (n.entry.1, at, record { lo = lo; hi = c.1 })

-- a fresh unit is listed
pub fresh_listed : (s : State) (held : Held) (limits : Limits) (u : WorkUnit) → Contains (units_of s held limits) u
    → u.fresh ≡ true → u.listed ≡ true
unfolding units_of_parts
fresh_listed s held limits u h fresh = ⊎_elim
    (λ k. let o = old_member s.parts held limits u k in absurd
    (let no : false ≡ true = ap (λ (x : WorkUnit). x.fresh) o.is ∙ fresh in cc))
    (λ k. let n = new_member s.parts held limits u k in sym (ap (λ (x : WorkUnit). x.listed) n.is))
    (Contains-append_cases (owed_units s.parts held limits) (new_units s.parts held limits) u h)
