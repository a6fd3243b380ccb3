-- Where the new ranges of later marks lie: in ranges that were open, and behind all that was taken.
use Rattle.std.proofs.Common.{◌≡◌, ⊎_elim, ℕ, ◌+◌, ◌<◌, ◌≤◌, Bool, true, false, cond, not, ◌||◌, nat_lt}
use Rattle.std.proofs.Common.{List, [], ◌∷◌, ◌++◌, length, drop, get_or, refl, sym, ap, subst, ◌∙◌, append_assoc}
use Rattle.std.proofs.Common.{append-nil, zero-add, arith}
use Rattle.std.specs.List.{Contains, filter, flat_map, list_any}
use Rattle.std.proofs.lemmas.Bool.{ltb-false, lt-ltb, le-ltb, not-true}
use Rattle.std.proofs.lemmas.Bool.Decides.{nat_tests}
use Rattle.std.proofs.lemmas.List.Elements.{filter_agree}
use Rattle.gob_ledger.specs.Marks.{Marks, Span, Done, Tiled, InOrder, has, is_done, done_spans}
use Rattle.gob_ledger.specs.Delta.{MarksFollow, changed_marks, has_ranges}
use Rattle.gob_ledger.proofs.Members.{first_in, later_in, in_cases, map_in}
use Rattle.gob_ledger.proofs.Ranges.{spans, times, inside, within, covered-is, order_members, owed_below}
use Rattle.gob_marks.proofs.Places.{done-times}
use Rattle.gob_state.proofs.SettingLemmas.{at_drop}
use Rattle.gob_state.proofs.WriteLemmas.{dropped_all}
use Rattle.gob_segments.specs.Written.{begun_in, done_from, new_done, new_open}
use Rattle.gob_segments.proofs.Changed.{any_some, changed_marks-is, some_any}
use Rattle.gob_segments.proofs.Put.{none_kept}

-- ---- parts of ranges in order

-- nothing begins before the first of them
none_before : (p : Done → Bool) (at from : ℕ) (ds : List Done) → at ≤ from → InOrder from (spans ds)
    → ((d : Done) → p d ≡ true → d.span.lo < at) → filter p ds ≡ []
none_before p at from [] le order low = refl
none_before p at from (d ∷ ds) le (a, b, c) low =
    cases (p d) refl (none_before p at d.span.hi ds (omega (arith, le, a, b)) c low)
  where
    cases : (v : Bool) → p d ≡ v → filter p ds ≡ [] → cond v (d ∷ filter p ds) (filter p ds) ≡ []
    cases true here rest = absurd (omega (arith, low d here, le, a))
    cases false there rest = rest

-- one test holds below an offset alone, and the other one there and behind
split_at : (p q : Done → Bool) (at from : ℕ) (ds : List Done) → InOrder from (spans ds)
    → ((d : Done) → p d ≡ true → d.span.lo < at) → ((d : Done) → q d ≡ true → at ≤ d.span.lo)
    → filter p ds ++ filter q ds ≡ filter (λ d. p d || q d) ds
split_at p q at from [] order low high = refl
split_at p q at from (d ∷ ds) (a, b, c) low high =
    cases (p d) refl (q d) refl (split_at p q at d.span.hi ds c low high)
  where
    both : Done → Bool
    both e = p e || q e

    cases : (u : Bool) → p d ≡ u → (v : Bool) → q d ≡ v → filter p ds ++ filter q ds ≡ filter both ds
        → cond u (d ∷ filter p ds) (filter p ds) ++ cond v (d ∷ filter q ds) (filter q ds)
        ≡ cond (u || v) (d ∷ filter both ds) (filter both ds)
    cases true below true behind rest = absurd (omega (arith, low d below, high d behind))
    cases true below false other rest = ap (λ (es : List Done). d ∷ es) rest
    cases false other true behind rest =
        let none : filter p ds ≡ [] = none_before p at d.span.hi ds (omega (arith, high d behind, b)) c low in
        ap (λ (es : List Done). es ++ d ∷ filter q ds) none
        ∙ ap (λ (es : List Done). d ∷ es) (ap (λ (es : List Done). es ++ filter q ds) (sym none) ∙ rest)
    cases false other false none rest = rest

-- ---- what lies in open ranges and behind them

or_again : (a b c : Bool) → (a || (b || c)) ≡ ((a || b) || c)
or_again true b c = refl
or_again false b c = refl

or_either : (P : Type 0) (a b : Bool) → (a || b) ≡ true → (a ≡ true → P) → (b ≡ true → P) → P
or_either P true b e first second = first refl
or_either P false b e first second = second e

-- the range begins in one of these, or at an offset or behind it
abbrev pub is_free : List Span → ℕ → Done → Bool
is_free ss next d = list_any (has d.span.lo) ss || not (nat_lt d.span.lo next)

pub gathered : (next from : ℕ) (ss : List Span) (ds : List Done) → InOrder from ss
    → ((s : Span) → Contains ss s → s.hi ≤ next) → InOrder 0 (spans ds)
    → flat_map (λ s. begun_in s ds) ss ++ done_from next ds ≡ filter (is_free ss next) ds
gathered next from [] ds order below rise = refl
gathered next from (s ∷ ss) ds (a, b, c) below rise =
    append_assoc (begun_in s ds) (flat_map (λ t. begun_in t ds) ss) (done_from next ds)
    ∙ ap (λ (es : List Done). begun_in s ds ++ es)
    (gathered next s.hi ss ds c (λ t h. below t (later_in s ss t h)) rise)
    ∙ split_at (λ d. has d.span.lo s) (is_free ss next) s.hi 0 ds rise
    (λ d e. (within d.span.lo s e).1) behind
    ∙ filter_agree (λ d. has d.span.lo s || is_free ss next d) (is_free (s ∷ ss) next)
    (λ d. or_again (has d.span.lo s) (list_any (has d.span.lo) ss) (not (nat_lt d.span.lo next))) ds
  where
    behind : (d : Done) → is_free ss next d ≡ true → s.hi ≤ d.span.lo
    behind d e = or_either (s.hi ≤ d.span.lo) (list_any (has d.span.lo) ss) (not (nat_lt d.span.lo next)) e
        (λ h.
        let r = any_some (has d.span.lo) ss h in
        omega (arith, (order_members s.hi ss r.0 c r.1).0, (within d.span.lo r.0 r.2).0))
        (λ h.
        let over : next ≤ d.span.lo = ltb-false d.span.lo next (not-true (nat_lt d.span.lo next) h) in
        omega (arith, over, below s (first_in s ss s refl)))

open-times : (at : ℕ) (ss : List Span) → list_any (has at) ss ≡ nat_lt 0 (times at ss)
open-times at [] = sym (le-ltb 0 0 (omega arith))
open-times at (s ∷ ss) = elim (has at s) as
    (λ b. (b || list_any (has at) ss) ≡ nat_lt 0 (cond b 1 0 + times at ss)) [
      | true ↦ sym (lt-ltb 0 (1 + times at ss) (omega arith))
      | false ↦ open-times at ss ∙ ap (nat_lt 0) (sym (zero-add (times at ss)))
    ]

-- an offset that isn't done is owed or comes behind all that was taken
free_is : (before : Marks) (at : ℕ) → Tiled before
    → (list_any (has at) before.owed || not (nat_lt at before.next)) ≡ not (is_done at before)
free_is before at tiled =
    let once : times at (done_spans before) + times at before.owed ≡ cond (nat_lt at before.next) 1 0 =
    sym (covered-is at before) ∙ tiled.once at in
    ap (λ b. b || not (nat_lt at before.next)) (open-times at before.owed)
    ∙ counted (times at (done_spans before)) (times at before.owed) (nat_lt at before.next) once
    ∙ sym (ap not (done-times at before.finished))
  where
    counted : (a b : ℕ) (v : Bool) → a + b ≡ cond v 1 0 → (nat_lt 0 b || not v) ≡ not (nat_lt 0 a)
    counted a b true once = grind (arith, nat_tests, once)
    counted a b false once = grind (arith, nat_tests, once)

pub new_done-is : (before : Marks) (after : List Done) → Tiled before → InOrder 0 (spans after)
    → flat_map (λ s. begun_in s after) before.owed ++ done_from before.next after ≡ new_done before after
new_done-is before after tiled rise =
    gathered before.next 0 before.owed after tiled.owed (owed_below before tiled) rise
    ∙ filter_agree (is_free before.owed before.next) (λ d. not (is_done d.span.lo before))
    (λ d. free_is before d.span.lo tiled) after

-- what begins at an offset or behind it, and below another one
pub begun_in-is : (s : Span) (ds : List Done)
    → filter (λ d. nat_lt d.span.lo s.hi) (done_from s.lo ds) ≡ begun_in s ds
begun_in-is s [] = refl
begun_in-is s (d ∷ ds) = cases (nat_lt d.span.lo s.lo) refl (begun_in-is s ds)
  where
    p : Done → Bool
    p e = nat_lt e.span.lo s.hi

    cases : (v : Bool) → nat_lt d.span.lo s.lo ≡ v → filter p (done_from s.lo ds) ≡ begun_in s ds
        → filter p (cond (not v) (d ∷ done_from s.lo ds) (done_from s.lo ds)) ≡ begun_in s (d ∷ ds)
    cases true low rest =
        let out : has d.span.lo s ≡ false = grind (arith, nat_tests, low) in
        rest ∙ sym (ap (λ b. cond b (d ∷ begun_in s ds) (begun_in s ds)) out)
    cases false high rest =
        let same : nat_lt d.span.lo s.hi ≡ has d.span.lo s = grind (arith, nat_tests, high) in
        ap (λ b. cond b (d ∷ filter p (done_from s.lo ds)) (filter p (done_from s.lo ds))) same
        ∙ ap (λ (es : List Done). cond (has d.span.lo s) (d ∷ es) es) rest

-- ---- parts that are put behind each other

pub parts_more : (s : Span → List Done) (old a b : List Done) (xs : List Span) (i : ℕ) (x : Span) → i < length xs
    → x ≡ get_or xs i x → a ++ flat_map s (drop i xs) ≡ old ++ flat_map s xs → b ≡ a ++ s x
    → b ++ flat_map s (drop (i + 1) xs) ≡ old ++ flat_map s xs
parts_more s old a b xs i x below is inv more =
    ap (λ (ds : List Done). ds ++ flat_map s (drop (i + 1) xs)) more
    ∙ append_assoc a (s x) (flat_map s (drop (i + 1) xs))
    ∙ ap (λ (ys : List Span). a ++ flat_map s ys) (sym (at_drop xs i x below is)) ∙ inv

pub parts_all : (s : Span → List Done) (old a : List Done) (xs : List Span) (i : ℕ) → length xs ≤ i
    → a ++ flat_map s (drop i xs) ≡ old ++ flat_map s xs → a ≡ old ++ flat_map s xs
parts_all s old a xs i past inv =
    sym (append-nil a) ∙ ap (λ (ys : List Span). a ++ flat_map s ys) (sym (dropped_all xs i past)) ∙ inv

-- ---- marks that are as they were

abbrev Within : List Done → List Done → Type 0
Within xs ys = (d : Done) → Contains xs d → Contains ys d

rest_within : (from low : ℕ) (x : Done) (xs : List Done) (y : Done) (ys : List Done) → InOrder from (spans (x ∷ xs))
    → InOrder low (spans (y ∷ ys)) → Within (x ∷ xs) (y ∷ ys) → Within xs ys
rest_within from low x xs y ys (a, b, c) (e, f, g) all d h =
    let later = (order_members x.span.hi (spans xs) d.span c (map_in (λ (k : Done). k.span) xs d h)).0 in
    ⊎_elim
    (λ same. absurd (⊎_elim
    (λ alike. omega (arith, later, b, ap (λ (k : Done). k.span.lo) same, ap (λ (k : Done). k.span.lo) alike))
    (λ k.
    let over = (order_members y.span.hi (spans ys) x.span g (map_in (λ (k : Done). k.span) ys x k)).0 in
    omega (arith, later, b, f, over, ap (λ (k : Done). k.span.lo) same))
    (in_cases y ys x (all x (first_in x xs x refl)))))
    (λ k. k)
    (in_cases y ys d (all d (later_in x xs d h)))

-- ranges in order that are as many as others among which they are, are these
same_ranges : (from low : ℕ) (xs ys : List Done) → InOrder from (spans xs) → InOrder low (spans ys) → Within xs ys
    → length xs ≡ length ys → xs ≡ ys
same_ranges from low [] [] order rise all same = refl
same_ranges from low [] (y ∷ ys) order rise all same = absurd (omega (arith, same))
same_ranges from low (x ∷ xs) [] order rise all same = absurd (omega (arith, same))
same_ranges from low (x ∷ xs) (y ∷ ys) order rise all same =
    let rest : xs ≡ ys = same_ranges x.span.hi y.span.hi xs ys order.2 rise.2
    (rest_within from low x xs y ys order rise all) (omega (arith, same)) in
    let first : y ≡ x = ⊎_elim (λ e. e) (λ k. absurd (twice (subst (λ (zs : List Done). Contains zs x) (sym rest) k)))
    (in_cases y ys x (all x (first_in x xs x refl))) in
    λ i. sym first i ∷ rest i
  where
    twice : Contains xs x → ⊥
    twice k =
        let over = (order_members x.span.hi (spans xs) x.span order.2 (map_in (λ (k : Done). k.span) xs x k)).0 in
        omega (arith, over, order.1)

none_done : (m : Marks) → Tiled m → new_done m m.finished ≡ []
none_done m tiled = none_kept (λ d. not (is_done d.span.lo m)) m.finished (λ d h. ap not (known d h))
  where
    known : (d : Done) → Contains m.finished d → is_done d.span.lo m ≡ true
    known d h =
        let there = map_in (λ (e : Done). e.span) m.finished d h in
        let some = (order_members 0 (done_spans m) d.span tiled.finished there).1 in
        some_any (λ (e : Done). has d.span.lo e.span) m.finished d h (inside d.span.lo d.span (omega arith) some)

nothing_done : (before after : Marks) → MarksFollow before after → Tiled before → Tiled after
    → length before.finished ≡ length after.finished → new_done before after.finished ≡ []
nothing_done before after follow tiled later same =
    ap (new_done before)
    (sym (same_ranges 0 0 before.finished after.finished tiled.finished later.finished follow.finished same))
    ∙ none_done before tiled

nothing_open : (before after : Marks) → Tiled after → before.next ≡ after.next
    → new_open before.next after.owed ≡ []
nothing_open before after later same = none_kept (λ s. not (nat_lt s.lo before.next)) after.owed
    (λ s h.
    let end = owed_below after later s h in
    let some = (order_members 0 after.owed s later.owed h).1 in
    ap not (lt-ltb s.lo before.next (omega (arith, end, some, same))))

-- marks that end where others end, with as many done ranges, have no range that is new
pub nothing_new : (before after : Marks) → MarksFollow before after → Tiled before → Tiled after
    → before.next ≡ after.next → length before.finished ≡ length after.finished
    → has_ranges ([], changed_marks before after) ≡ false
nothing_new before after follow tiled later end same =
    let done = nothing_done before after follow tiled later same in
    let owed = nothing_open before after later end in
    ap (λ (m : Marks). has_ranges ([], m)) (changed_marks-is before after follow tiled later)
    ∙ (λ i. nat_lt 0 (length (done i) + length (owed i)))
