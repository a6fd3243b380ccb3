-- Where an offset stands among ranges in order, and what changes there.
use Rattle.std.proofs.Common.{◌≡◌, ℕ, zero, suc, ◌+◌, ◌<◌, ◌≤◌, Bool, true, false, cond, not, ◌||◌, nat_lt, nat_eq}
use Rattle.std.proofs.Common.{List, [], ◌∷◌, ◌++◌, length, get_or, refl, sym, ap, subst, ◌∙◌, zero-add, arith}
use Rattle.std.specs.List.{filter, list_any, insert, remove}
use Rattle.std.proofs.lemmas.Bool.{ltb-true, ltb-false, lt-ltb, le-ltb, eqb-true, and_parts}
use Rattle.std.proofs.lemmas.Bool.Decides.{nat_tests}
use Rattle.gob_ledger.specs.Marks.{Span, Done, has, InOrder}
use Rattle.gob_ledger.specs.Units.{same_span}
use Rattle.gob_ledger.specs.Next.{insert_done}
use Rattle.gob_ledger.proofs.Ranges.{one_in, times, spans, same_itself}
use Rattle.gob_marks.specs.Places.{begun_by}

pub begun-le : (at : ℕ) (ss : List Span) → begun_by at ss ≤ length ss
begun-le at [] = omega arith
begun-le at (s ∷ ss) = elim (nat_lt at s.lo) as (λ b. cond b zero (suc (begun_by at ss)) ≤ suc (length ss)) [
  | true ↦ omega arith
  | false ↦ omega (arith, begun-le at ss)
]

pub spans-length : (ds : List Done) → length (spans ds) ≡ length ds
spans-length [] = refl
spans-length (d ∷ ds) = ap suc (spans-length ds)

pub spans-get : (ds : List Done) (m : ℕ) (d : Done) → get_or (spans ds) m d.span ≡ (get_or ds m d).span
spans-get [] m d = refl
spans-get (e ∷ es) zero d = refl
spans-get (e ∷ es) (suc m) d = spans-get es m d

pub spans-append : (ds es : List Done) → spans (ds ++ es) ≡ spans ds ++ spans es
spans-append [] es = refl
spans-append (d ∷ ds) es = ap (λ (ss : List Span). d.span ∷ ss) (spans-append ds es)

-- ranges in order begin at from or behind
pub ahead : (from : ℕ) (ss : List Span) (m : ℕ) (d : Span) → InOrder from ss → m < length ss → from ≤ (get_or ss m d).lo
ahead from [] m d order within = absurd (omega (arith, within))
ahead from (s ∷ ss) zero d (a, b, c) within = a
ahead from (s ∷ ss) (suc m) d (a, b, c) within =
    let later : s.hi ≤ (get_or ss m d).lo = ahead s.hi ss m d c (omega (arith, within)) in omega (arith, later, a, b)

-- a range that begins at the offset or before is counted
pub passed : (at from : ℕ) (ss : List Span) (m : ℕ) (d : Span) → InOrder from ss → m < length ss
    → (get_or ss m d).lo ≤ at → m < begun_by at ss
passed at from [] m d order within low = absurd (omega (arith, within))
passed at from (s ∷ ss) zero d (a, b, c) within low =
    subst (λ v. zero < cond v zero (suc (begun_by at ss))) (sym (le-ltb at s.lo low)) (omega arith)
passed at from (s ∷ ss) (suc m) d (a, b, c) within low =
    let later : s.hi ≤ (get_or ss m d).lo = ahead s.hi ss m d c (omega (arith, within)) in
    let first : s.lo ≤ at = omega (arith, later, b, low) in
    let rest : m < begun_by at ss = passed at s.hi ss m d c (omega (arith, within)) low in
    subst (λ v. suc m < cond v zero (suc (begun_by at ss))) (sym (le-ltb at s.lo first)) (omega (arith, rest))

-- one that begins behind it isn't
pub stopped : (at : ℕ) (ss : List Span) (m : ℕ) (d : Span) → m < length ss → at < (get_or ss m d).lo
    → begun_by at ss ≤ m
stopped at [] m d within high = absurd (omega (arith, within))
stopped at (s ∷ ss) zero d within high =
    subst (λ v. cond v zero (suc (begun_by at ss)) ≤ zero) (sym (lt-ltb at s.lo high)) (omega arith)
stopped at (s ∷ ss) (suc m) d within high =
    let later : begun_by at ss ≤ m = stopped at ss m d (omega (arith, within)) high in
    elim (nat_lt at s.lo) as (λ v. cond v zero (suc (begun_by at ss)) ≤ suc m) [
      | true ↦ omega arith
      | false ↦ omega (arith, later)
    ]

-- the last one that is counted begins at the offset or before
pub begun-low : (at : ℕ) (ss : List Span) (k : ℕ) (d : Span) → begun_by at ss ≡ suc k → (get_or ss k d).lo ≤ at
begun-low at [] k d is = absurd (omega (arith, is))
begun-low at (s ∷ ss) k d is = cases (nat_lt at s.lo) refl is (λ j e. begun-low at ss j d e)
  where
    index : nat_lt at s.lo ≡ false → (k : ℕ) → begun_by at ss ≡ k
        → ((j : ℕ) → begun_by at ss ≡ suc j → (get_or ss j d).lo ≤ at) → (get_or (s ∷ ss) k d).lo ≤ at
    index low zero e later = ltb-false at s.lo low
    index low (suc j) e later = later j e

    cases : (v : Bool) → nat_lt at s.lo ≡ v → cond v zero (suc (begun_by at ss)) ≡ suc k
        → ((j : ℕ) → begun_by at ss ≡ suc j → (get_or ss j d).lo ≤ at) → (get_or (s ∷ ss) k d).lo ≤ at
    cases true high e later = absurd (omega (arith, e))
    cases false low e later = index low k (omega (arith, e)) later

-- ---- what an offset lies in

pub times-before : (at from : ℕ) (ss : List Span) → at < from → InOrder from ss → times at ss ≡ 0
times-before at from [] before order = refl
times-before at from (s ∷ ss) before (a, b, c) =
    let later : times at ss ≡ 0 = times-before at s.hi ss (omega (arith, before, a, b)) c in
    let low : at < s.lo = omega (arith, before, a) in
    grind (arith, nat_tests, later, low)

pub times-begun_none : (at from : ℕ) (ss : List Span) → InOrder from ss → begun_by at ss ≡ 0 → times at ss ≡ 0
times-begun_none at from [] order none = refl
times-begun_none at from (s ∷ ss) (a, b, c) none = cases (nat_lt at s.lo) refl none
  where
    cases : (v : Bool) → nat_lt at s.lo ≡ v → cond v zero (suc (begun_by at ss)) ≡ 0 → times at (s ∷ ss) ≡ 0
    cases true is e = times-before at s.lo (s ∷ ss) (ltb-true at s.lo is) (omega arith, b, c)
    cases false is e = absurd (omega (arith, e))

-- an offset lies in the last range that has begun, or in none
pub times-begun : (at from : ℕ) (ss : List Span) (k : ℕ) (d : Span) → InOrder from ss → begun_by at ss ≡ suc k
    → nat_lt 0 (times at ss) ≡ nat_lt at (get_or ss k d).hi
times-begun at from [] k d order is = absurd (omega (arith, is))
times-begun at from (s ∷ ss) k d (a, b, c) is = cases (nat_lt at s.lo) refl is (λ j e. times-begun at s.hi ss j d c e)
  where
    index : nat_lt at s.lo ≡ false → (k : ℕ) → begun_by at ss ≡ k
        → ((j : ℕ) → begun_by at ss ≡ suc j → nat_lt 0 (times at ss) ≡ nat_lt at (get_or ss j d).hi)
        → nat_lt 0 (times at (s ∷ ss)) ≡ nat_lt at (get_or (s ∷ ss) k d).hi
    index low zero e later =
        let first : s.lo ≤ at = ltb-false at s.lo low in
        let rest : times at ss ≡ 0 = times-begun_none at s.hi ss c e in grind (arith, nat_tests, first, rest)
    index low (suc j) e later =
        let last : (get_or ss j d).lo ≤ at = begun-low at ss j d e in
        let within : j < length ss = omega (arith, e, begun-le at ss) in
        let behind : s.hi ≤ (get_or ss j d).lo = ahead s.hi ss j d c within in
        let over : s.hi ≤ at = omega (arith, last, behind) in
        let out : one_in at s ≡ 0 = grind (arith, nat_tests, over) in
        ap (λ n. nat_lt 0 (n + times at ss)) out ∙ ap (nat_lt 0) (zero-add (times at ss)) ∙ later j e

    cases : (v : Bool) → nat_lt at s.lo ≡ v → cond v zero (suc (begun_by at ss)) ≡ suc k
        → ((j : ℕ) → begun_by at ss ≡ suc j → nat_lt 0 (times at ss) ≡ nat_lt at (get_or ss j d).hi)
        → nat_lt 0 (times at (s ∷ ss)) ≡ nat_lt at (get_or (s ∷ ss) k d).hi
    cases true high e later = absurd (omega (arith, e))
    cases false low e later = index low k (omega (arith, e)) later

pub done-times : (at : ℕ) (ds : List Done) → list_any (λ d. has at d.span) ds ≡ nat_lt 0 (times at (spans ds))
done-times at [] = sym (le-ltb 0 0 (omega arith))
done-times at (d ∷ ds) = elim (has at d.span) as
    (λ b. (b || list_any (λ e. has at e.span) ds) ≡ nat_lt 0 (cond b 1 0 + times at (spans ds))) [
      | true ↦ sym (lt-ltb 0 (1 + times at (spans ds)) (omega arith))
      | false ↦ done-times at ds ∙ ap (nat_lt 0) (sym (zero-add (times at (spans ds))))
    ]

-- ---- a range that is put in

pub insert-begun : (d : Done) (es : List Done) → insert es (begun_by d.span.lo (spans es)) d ≡ insert_done d es
insert-begun d [] = refl
insert-begun d (e ∷ es) = elim (nat_lt d.span.lo e.span.lo) as
    (λ b. insert (e ∷ es) (cond b zero (suc (begun_by d.span.lo (spans es)))) d ≡ cond b (d ∷ e ∷ es)
    (e ∷ insert_done d es)) [
      | true ↦ refl
      | false ↦ ap (λ (fs : List Done). e ∷ fs) (insert-begun d es)
    ]

-- ---- a range that is looked up

pub apart : (s t : Span) → (s.lo ≡ t.lo → ⊥) → same_span s t ≡ false
apart s t differ = elim (same_span s t) as (λ v. same_span s t ≡ v → v ≡ false) [
  | true ↦ λ e. absurd (differ (eqb-true s.lo t.lo (and_parts (nat_eq s.lo t.lo) (nat_eq s.hi t.hi) e).0))
  | false ↦ λ e. refl
] refl

-- ranges behind a range aren't it
pub none_behind : (s : Span) (from : ℕ) (ss : List Span) → s.lo < from → InOrder from ss
    → list_any (same_span s) ss ≡ false
none_behind s from [] before order = refl
none_behind s from (t ∷ ts) before (a, b, c) =
    ap (λ v. v || list_any (same_span s) ts) (apart s t (λ same. omega (arith, same, before, a)))
    ∙ none_behind s t.hi ts (omega (arith, before, a, b)) c

pub kept_behind : (s : Span) (from : ℕ) (ss : List Span) → s.lo < from → InOrder from ss
    → filter (λ o. not (same_span o s)) ss ≡ ss
kept_behind s from [] before order = refl
kept_behind s from (t ∷ ts) before (a, b, c) =
    ap (λ v. cond (not v) (t ∷ filter (λ o. not (same_span o s)) ts) (filter (λ o. not (same_span o s)) ts))
    (apart t s (λ same. omega (arith, same, before, a)))
    ∙ ap (λ (us : List Span). t ∷ us) (kept_behind s t.hi ts (omega (arith, before, a, b)) c)

-- what begins behind an offset has not begun there
pub begun-behind : (at from : ℕ) (ss : List Span) → at < from → InOrder from ss → begun_by at ss ≡ 0
begun-behind at from [] before order = refl
begun-behind at from (t ∷ ts) before (a, b, c) =
    ap (λ v. cond v zero (suc (begun_by at ts))) (lt-ltb at t.lo (omega (arith, before, a)))

-- where nothing has begun at its offset, a range isn't in the list
pub any-begun_none : (s : Span) (from : ℕ) (ss : List Span) → InOrder from ss → begun_by s.lo ss ≡ 0
    → list_any (same_span s) ss ≡ false
any-begun_none s from [] order none = refl
any-begun_none s from (t ∷ ts) (a, b, c) none = cases (nat_lt s.lo t.lo) refl none
  where
    cases : (v : Bool) → nat_lt s.lo t.lo ≡ v → cond v zero (suc (begun_by s.lo ts)) ≡ 0
        → list_any (same_span s) (t ∷ ts) ≡ false
    cases true high e = none_behind s t.lo (t ∷ ts) (ltb-true s.lo t.lo high) (omega arith, b, c)
    cases false low e = absurd (omega (arith, e))

-- else it is there exactly where it is the last that has begun
pub any-begun : (s : Span) (from : ℕ) (ss : List Span) (k : ℕ) (d : Span) → InOrder from ss → begun_by s.lo ss ≡ suc k
    → list_any (same_span s) ss ≡ same_span s (get_or ss k d)
any-begun s from [] k d order is = absurd (omega (arith, is))
any-begun s from (t ∷ ts) k d (a, b, c) is = cases (nat_lt s.lo t.lo) refl is (λ j e. any-begun s t.hi ts j d c e)
  where
    first : list_any (same_span s) ts ≡ false → (v : Bool) → same_span s t ≡ v
        → (same_span s t || list_any (same_span s) ts) ≡ same_span s t
    first none true same = ap (λ v. v || list_any (same_span s) ts) same ∙ sym same
    first none false same = ap (λ v. v || list_any (same_span s) ts) same ∙ none ∙ sym same

    index : (k : ℕ) → begun_by s.lo ts ≡ k
        → ((j : ℕ) → begun_by s.lo ts ≡ suc j → list_any (same_span s) ts ≡ same_span s (get_or ts j d))
        → list_any (same_span s) (t ∷ ts) ≡ same_span s (get_or (t ∷ ts) k d)
    index zero e later = first (any-begun_none s t.hi ts c e) (same_span s t) refl
    index (suc j) e later =
        let last : (get_or ts j d).lo ≤ s.lo = begun-low s.lo ts j d e in
        let within : j < length ts = omega (arith, e, begun-le s.lo ts) in
        let behind : t.hi ≤ (get_or ts j d).lo = ahead t.hi ts j d c within in
        ap (λ v. v || list_any (same_span s) ts) (apart s t (λ same. omega (arith, same, last, behind, b)))
        ∙ later j e

    cases : (v : Bool) → nat_lt s.lo t.lo ≡ v → cond v zero (suc (begun_by s.lo ts)) ≡ suc k
        → ((j : ℕ) → begun_by s.lo ts ≡ suc j → list_any (same_span s) ts ≡ same_span s (get_or ts j d))
        → list_any (same_span s) (t ∷ ts) ≡ same_span s (get_or (t ∷ ts) k d)
    cases true high e later = absurd (omega (arith, e))
    cases false low e later = index k (omega (arith, e)) later

-- taking it out
pub remove-begun : (s : Span) (from : ℕ) (ss : List Span) (k : ℕ) (d : Span) → InOrder from ss
    → begun_by s.lo ss ≡ suc k → get_or ss k d ≡ s → remove ss k ≡ filter (λ o. not (same_span o s)) ss
remove-begun s from [] k d order is here = absurd (omega (arith, is))
remove-begun s from (t ∷ ts) k d (a, b, c) is here =
    cases (nat_lt s.lo t.lo) refl is (λ j e same. remove-begun s t.hi ts j d c e same)
  where
    index : (k : ℕ) → begun_by s.lo ts ≡ k → get_or (t ∷ ts) k d ≡ s
        → ((j : ℕ) → begun_by s.lo ts ≡ suc j → get_or ts j d ≡ s
        → remove ts j ≡ filter (λ o. not (same_span o s)) ts)
        → remove (t ∷ ts) k ≡ filter (λ o. not (same_span o s)) (t ∷ ts)
    index zero e same later =
        let yes : same_span t s ≡ true = subst (λ x. same_span t x ≡ true) same (same_itself t) in
        let low : t.lo ≡ s.lo = ap (λ (x : Span). x.lo) same in
        sym (ap (λ v. cond (not v) (t ∷ filter (λ o. not (same_span o s)) ts)
        (filter (λ o. not (same_span o s)) ts)) yes
        ∙ kept_behind s t.hi ts (omega (arith, low, b)) c)
    index (suc j) e same later =
        let within : j < length ts = omega (arith, e, begun-le s.lo ts) in
        let behind : t.hi ≤ (get_or ts j d).lo = ahead t.hi ts j d c within in
        let low : (get_or ts j d).lo ≡ s.lo = ap (λ (x : Span). x.lo) same in
        ap (λ (us : List Span). t ∷ us) (later j e same)
        ∙ sym (ap (λ v. cond (not v) (t ∷ filter (λ o. not (same_span o s)) ts)
        (filter (λ o. not (same_span o s)) ts)) (apart t s (λ alike. omega (arith, alike, low, behind, b))))

    cases : (v : Bool) → nat_lt s.lo t.lo ≡ v → cond v zero (suc (begun_by s.lo ts)) ≡ suc k
        → ((j : ℕ) → begun_by s.lo ts ≡ suc j → get_or ts j d ≡ s
        → remove ts j ≡ filter (λ o. not (same_span o s)) ts)
        → remove (t ∷ ts) k ≡ filter (λ o. not (same_span o s)) (t ∷ ts)
    cases true high e later = absurd (omega (arith, e))
    cases false low e later = index k (omega (arith, e)) here later
