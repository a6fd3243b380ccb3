-- Ranges in order, in how many of them an offset lies, and what stays tiled.
use Rattle.std.proofs.Common.{◌≡◌, ⊎_elim, ℕ, ◌+◌, ◌-◌, ◌<◌, ◌≤◌, Bool, true, false, cond, not, nat_lt, nat_le, nat_eq}
use Rattle.std.proofs.Common.{List, [], ◌∷◌, ◌++◌, map, refl, sym, ap, subst, ◌∙◌, arith}
use Rattle.std.specs.List.{Contains, filter, count_by}
use Rattle.std.proofs.lemmas.Bool.{ltb-true, ltb-false, leb-true, lt-ltb, le-ltb, le-leb, eqb-true, and_parts, and_from}
use Rattle.std.proofs.lemmas.Bool.Decides.{nat_tests}
use Rattle.std.proofs.lemmas.List.Sums.{sum_by-cons}
use Rattle.gob_ledger.specs.Marks.{Span, Done, Marks, has, times_covered, done_spans, InOrder, Tiled}
use Rattle.gob_ledger.specs.Units.{same_span}
use Rattle.gob_ledger.specs.Next.{insert_done, with_owed, with_done, no_marks}
use Rattle.gob_ledger.proofs.Members.{none_in, first_in, later_in, in_cases}

-- 1 where the offset lies in the range
abbrev pub one_in : ℕ → Span → ℕ
one_in at s = cond (has at s) 1 0

abbrev pub times : ℕ → List Span → ℕ
times at [] = 0
times at (s ∷ ss) = one_in at s + times at ss

count_spans : (at : ℕ) (ss : List Span) → count_by (has at) ss ≡ times at ss
count_spans at [] = refl
count_spans at (s ∷ ss) = sum_by-cons (λ x. cond (has at x) 1 0) s ss ∙ ap (λ n. one_in at s + n) (count_spans at ss)

count_done : (at : ℕ) (ds : List Done) → count_by (λ d. has at d.span) ds ≡ times at (map (λ d. d.span) ds)
count_done at [] = refl
count_done at (d ∷ ds) = sum_by-cons (λ x. cond (has at x.span) 1 0) d ds
    ∙ ap (λ n. one_in at d.span + n) (count_done at ds)

pub covered-is : (at : ℕ) (m : Marks) → times_covered at m ≡ times at (done_spans m) + times at m.owed
covered-is at m = λ i. count_done at m.finished i + count_spans at m.owed i

pub times-append : (at : ℕ) (xs ys : List Span) → times at (xs ++ ys) ≡ times at xs + times at ys
times-append at [] ys = omega arith
times-append at (x ∷ xs) ys = omega (arith, times-append at xs ys)

pub inside : (at : ℕ) (s : Span) → s.lo ≤ at → at < s.hi → has at s ≡ true
inside at s low high = and_from _ _ (le-leb s.lo at low) (lt-ltb at s.hi high)

pub within : (at : ℕ) (s : Span) → has at s ≡ true → (s.lo ≤ at) × (at < s.hi)
within at s e = let p = and_parts (nat_le s.lo at) (nat_lt at s.hi) e in (leb-true s.lo at p.0, ltb-true at s.hi p.1)

one_inside : (at : ℕ) (s : Span) → has at s ≡ true → one_in at s ≡ 1
one_inside at s e = ap (λ b. cond b 1 0) e

pub times_some : (at : ℕ) (ss : List Span) (s : Span) → Contains ss s → has at s ≡ true → 1 ≤ times at ss
times_some at [] s h e = none_in s h
times_some at (t ∷ ts) s h e = ⊎_elim
    (λ same. let one : one_in at t ≡ 1 = one_inside at t (ap (has at) same ∙ e) in omega arith)
    (λ k. let later : 1 ≤ times at ts = times_some at ts s k e in omega arith)
    (in_cases t ts s h)

pub order_from : (low from : ℕ) (ss : List Span) → low ≤ from → InOrder from ss → InOrder low ss
order_from low from [] le h = tt
order_from low from (s ∷ ss) le (a, b, c) = (omega arith, b, c)

pub order_members : (from : ℕ) (ss : List Span) (s : Span) → InOrder from ss → Contains ss s → (from ≤ s.lo)
    × (s.lo < s.hi)
order_members from [] s order h = none_in s h
order_members from (t ∷ ts) s (a, b, c) h = ⊎_elim
    (λ same. subst (λ (x : Span). (from ≤ x.lo) × (x.lo < x.hi)) same (a, b))
    (λ k. let r = order_members t.hi ts s c k in (omega (arith, r.0), r.1))
    (in_cases t ts s h)

pub order_append : (from : ℕ) (ss : List Span) (s : Span) → InOrder from ss → ((t : Span) → Contains ss t → t.hi ≤ s.lo)
    → from ≤ s.lo → s.lo < s.hi → InOrder from (ss ++ s ∷ [])
order_append from [] s order below low some = (low, some, tt)
order_append from (t ∷ ts) s (a, b, c) below low some =
    (a, b, order_append t.hi ts s c (λ u h. below u (later_in t ts u h)) (below t (first_in t ts t refl)) some)

pub order_filter : (p : Span → Bool) (from : ℕ) (ss : List Span) → InOrder from ss → InOrder from (filter p ss)
order_filter p from [] order = tt
order_filter p from (s ∷ ss) (a, b, c) = elim (p s) as (λ v. InOrder from (cond v (s ∷ filter p ss) (filter p ss))) [
  | true ↦ (a, b, order_filter p s.hi ss c)
  | false ↦ order_from from s.hi (filter p ss) (omega arith) (order_filter p s.hi ss c)
]

-- ranges behind a range aren't it
none_same : (s : Span) (from : ℕ) (ss : List Span) → s.lo < from → InOrder from ss
    → filter (λ o. not (same_span o s)) ss ≡ ss
none_same s from [] before order = refl
none_same s from (t ∷ ts) before (a, b, c) =
    let apart : same_span t s ≡ false = elim (same_span t s) as (λ v. same_span t s ≡ v → v ≡ false) [
      | true ↦ λ e. absurd (let same : t.lo ≡ s.lo = eqb-true t.lo s.lo
          (and_parts (nat_eq t.lo s.lo) (nat_eq t.hi s.hi) e).0 in omega arith)
      | false ↦ λ e. refl
    ] refl in
    ap (λ v. cond (not v) (t ∷ filter (λ o. not (same_span o s)) ts) (filter (λ o. not (same_span o s)) ts)) apart
    ∙ ap (λ us. t ∷ us) (none_same s t.hi ts (omega arith) c)

pub span_is : (s t : Span) → same_span s t ≡ true → s ≡ t
span_is s t e =
    let p = and_parts (nat_eq s.lo t.lo) (nat_eq s.hi t.hi) e in
    let lo : s.lo ≡ t.lo = eqb-true s.lo t.lo p.0 in
    let hi : s.hi ≡ t.hi = eqb-true s.hi t.hi p.1 in
    λ i. record { lo = lo i; hi = hi i }

pub same_itself : (s : Span) → same_span s s ≡ true
same_itself s = grind (arith, nat_tests)

-- taking a range away takes away one
pub times-without : (at from : ℕ) (ss : List Span) (s : Span) → InOrder from ss → Contains ss s
    → times at (filter (λ o. not (same_span o s)) ss) + one_in at s ≡ times at ss
times-without at from [] s order h = none_in s h
times-without at from (t ∷ ts) s (a, b, c) h = cases (same_span t s) refl (λ k. times-without at t.hi ts s c k)
  where
    cases : (v : Bool) → same_span t s ≡ v → (Contains ts s → times at (filter (λ o. not (same_span o s)) ts) + one_in
        at s ≡ times at ts)
        → times at (filter (λ o. not (same_span o s)) (t ∷ ts)) + one_in at s ≡ times at (t ∷ ts)
    cases true is later =
        let same : t ≡ s = span_is t s is in
        let rest : filter (λ o. not (same_span o s)) ts ≡ ts =
        none_same s t.hi ts (let lo : t.lo ≡ s.lo = ap (λ (x : Span). x.lo) same in omega arith) c in
        let one : one_in at t ≡ one_in at s = ap (one_in at) same in
        ap (λ v. times at (cond (not v) (t ∷ filter (λ o. not (same_span o s)) ts)
        (filter (λ o. not (same_span o s)) ts)) + one_in at s) is
        ∙ ap (λ us. times at us + one_in at s) rest ∙ omega arith
    cases false is later =
        let k : Contains ts s = ⊎_elim (λ same. absurd (let yes : same_span t s ≡ true =
        subst (λ x. same_span t x ≡ true) same (same_itself t) in cc)) (λ k. k) (in_cases t ts s h) in
        ap (λ v. times at (cond (not v) (t ∷ filter (λ o. not (same_span o s)) ts)
        (filter (λ o. not (same_span o s)) ts)) + one_in at s) is
        ∙ omega (arith, later k)

abbrev pub spans : List Done → List Span
spans ds = map (λ d. d.span) ds

pub times-insert : (at : ℕ) (d : Done) (es : List Done) → times at (spans (insert_done d es)) ≡ one_in at d.span + times
    at (spans es)
times-insert at d [] = refl
times-insert at d (e ∷ es) = elim (nat_lt d.span.lo e.span.lo) as
    (λ v. times at (spans (cond v (d ∷ e ∷ es) (e ∷ insert_done d es)))
    ≡ one_in at d.span + times at (spans (e ∷ es))) [
      | true ↦ refl
      | false ↦ omega (arith, times-insert at d es)
    ]

-- an offset isn't both in a range that is covered and in one that isn't
pub order_insert : (from : ℕ) (es : List Done) (d : Done) → InOrder from (spans es) → from ≤ d.span.lo
    → d.span.lo < d.span.hi → ((at : ℕ) → has at d.span ≡ true → times at (spans es) ≡ 0)
    → InOrder from (spans (insert_done d es))
order_insert from [] d order low some free = (low, some, tt)
order_insert from (e ∷ es) d (a, b, c) low some free = cases (nat_lt d.span.lo e.span.lo) refl
    (λ l. order_insert e.span.hi es d c l some (λ at h. omega (arith, free at h)))
  where
    clash : (at : ℕ) → has at d.span ≡ true → has at e.span ≡ true → ⊥
    clash at x y = let none : times at (spans (e ∷ es)) ≡ 0 = free at x in let one : one_in at e.span ≡ 1 =
        one_inside at e.span y in omega arith

    cases : (v : Bool) → nat_lt d.span.lo e.span.lo ≡ v → (e.span.hi ≤ d.span.lo
        → InOrder e.span.hi (spans (insert_done d es))) → InOrder from (spans (insert_done d (e ∷ es)))
    cases true is later =
        let before : d.span.lo < e.span.lo = ltb-true d.span.lo e.span.lo is in
        let apart : d.span.hi ≤ e.span.lo = elim (nat_lt e.span.lo d.span.hi) as
        (λ v. nat_lt e.span.lo d.span.hi ≡ v → d.span.hi ≤ e.span.lo) [
          | true ↦ λ y. absurd (clash e.span.lo (inside e.span.lo d.span (omega arith) (ltb-true e.span.lo d.span.hi y))
              (inside e.span.lo e.span (omega arith) b))
          | false ↦ λ y. ltb-false e.span.lo d.span.hi y
        ] refl in
        subst (λ v. InOrder from (spans (cond v (d ∷ e ∷ es) (e ∷ insert_done d es)))) (sym is)
        (low, some, (apart, b, c))
    cases false is later =
        let before : e.span.lo ≤ d.span.lo = ltb-false d.span.lo e.span.lo is in
        let apart : e.span.hi ≤ d.span.lo = elim (nat_lt d.span.lo e.span.hi) as
        (λ v. nat_lt d.span.lo e.span.hi ≡ v → e.span.hi ≤ d.span.lo) [
          | true ↦ λ y. absurd (clash d.span.lo (inside d.span.lo d.span (omega arith) some)
              (inside d.span.lo e.span before (ltb-true d.span.lo e.span.hi y)))
          | false ↦ λ y. ltb-false d.span.lo e.span.hi y
        ] refl in
        subst (λ v. InOrder from (spans (cond v (d ∷ e ∷ es) (e ∷ insert_done d es)))) (sym is) (a, b, later apart)

pub tiled_none : Tiled no_marks
tiled_none = record { finished = tt; owed = tt; once = λ at. sym (ap (λ b. cond b 1 0) (le-ltb at 0 (omega arith))) }

-- each owed range ends before next
pub owed_below : (m : Marks) → Tiled m → (s : Span) → Contains m.owed s → s.hi ≤ m.next
owed_below m tiled s h =
    let some = (order_members 0 m.owed s tiled.owed h).1 in
    let at : ℕ = s.hi - 1 in
    let one : 1 ≤ times at m.owed = times_some at m.owed s h (inside at s (omega (arith, some)) (omega (arith, some)))
    in
    let once : times at (done_spans m) + times at m.owed ≡ cond (nat_lt at m.next) 1 0 = sym (covered-is at m)
    ∙ tiled.once at in
    grind (arith, nat_tests, some)

-- each done range isn't empty, and ends before next
pub done_below : (m : Marks) → Tiled m → (s : Span) → Contains (done_spans m) s → (s.lo < s.hi) × (s.hi ≤ m.next)
done_below m tiled s h =
    let some = (order_members 0 (done_spans m) s tiled.finished h).1 in
    let at : ℕ = s.hi - 1 in
    let one : 1 ≤ times at (done_spans m) = times_some at (done_spans m) s h
    (inside at s (omega (arith, some)) (omega (arith, some))) in
    let once : times at (done_spans m) + times at m.owed ≡ cond (nat_lt at m.next) 1 0 = sym (covered-is at m)
    ∙ tiled.once at in
    (some, grind (arith, nat_tests, some))

pub tiled_owed : (m : Marks) (s : Span) → Tiled m → s.lo ≡ m.next → s.lo < s.hi → Tiled (with_owed s m)
tiled_owed m s tiled next some = record {
  finished = tiled.finished;
  owed = order_append 0 m.owed s tiled.owed (λ t h. let b : t.hi ≤ m.next = owed_below m tiled t h in omega arith)
      (omega arith) some;
  once = λ at. (covered-is at (with_owed s m) ∙ ap (λ n. times at (done_spans m) + n) (times-append at m.owed (s ∷ [])))
      ∙ grown at;
}
  where
    grown : (at : ℕ) → times at (done_spans m) + (times at m.owed + (one_in at s + 0)) ≡ cond (nat_lt at s.hi) 1 0
    grown at =
        let once : times at (done_spans m) + times at m.owed ≡ cond (nat_lt at m.next) 1 0 = sym (covered-is at m)
        ∙ tiled.once at in
        grind (arith, nat_tests)

-- what is owed is in no done range
pub owed_free : (m : Marks) → Tiled m → (s : Span) → Contains m.owed s → (at : ℕ) → has at s ≡ true
    → times at (done_spans m) ≡ 0
owed_free m tiled s h at e =
    let one : 1 ≤ times at m.owed = times_some at m.owed s h e in
    let once : times at (done_spans m) + times at m.owed ≡ cond (nat_lt at m.next) 1 0 = sym (covered-is at m)
    ∙ tiled.once at in
    grind (arith, nat_tests)

pub tiled_done : (m : Marks) (p : ℕ) (s : Span) → Tiled m → Contains m.owed s → Tiled (with_done p s m)
tiled_done m p s tiled h =
    let some = (order_members 0 m.owed s tiled.owed h).1 in
    record {
      finished = order_insert 0 m.finished (record { span = s; pipeline = p }) tiled.finished (omega arith) some
          (owed_free m tiled s h);
      owed = order_filter (λ o. not (same_span o s)) 0 m.owed tiled.owed;
      once = λ at.
          let moved : times at (spans (insert_done (record { span = s; pipeline = p }) m.finished)) ≡ one_in at s +
          times at (done_spans m) = times-insert at (record { span = s; pipeline = p }) m.finished in
          let left : times at (filter (λ o. not (same_span o s)) m.owed) + one_in at s ≡ times at m.owed =
          times-without at 0 m.owed s tiled.owed h in
          let once : times at (done_spans m) + times at m.owed ≡ cond (nat_lt at m.next) 1 0 = sym (covered-is at m)
          ∙ tiled.once at in
          covered-is at (with_done p s m) ∙ omega (arith, moved, left, once);
    }
