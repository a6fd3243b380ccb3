-- What tiles stays tiled, and what its ranges tell.
use Rattle.std.proofs.Common.{◌≡◌, ℕ, suc, ◌+◌, ◌-◌, ◌<◌, ◌≤◌, Bool, true, false, cond, not, ◌||◌, nat_lt, List, []}
use Rattle.std.proofs.Common.{◌∷◌, ◌++◌, length, get_or, refl, sym, ap, subst, ◌∙◌, arith}
use Rattle.std.specs.List.{Contains, filter, insert, list_any, remove}
use Rattle.std.proofs.lemmas.List.{get_or_default}
use Rattle.std.proofs.lemmas.Bool.{lt-ltb, le-ltb}
use Rattle.std.proofs.lemmas.Bool.Decides.{nat_tests}
use Rattle.gob_ledger.specs.Marks.{Marks, Span, Done, Tiled, InOrder, IsWatermark, is_done, done_spans}
use Rattle.gob_ledger.specs.Units.{same_span}
use Rattle.gob_ledger.specs.Next.{with_owed, with_done, insert_done}
use Rattle.gob_ledger.proofs.Members.{first_in, later_in, map_in}
use Rattle.gob_ledger.proofs.Ranges.{one_in, times, covered-is, times-append, times_some, inside, order_append}
use Rattle.gob_ledger.proofs.Ranges.{order_members, owed_below, done_below, span_is, same_itself, tiled_done}
use Rattle.gob_marks.specs.Changed.{next_span, with_new_done}
use Rattle.gob_marks.specs.Places.{begun_by}
use Rattle.gob_marks.proofs.Places.{any-begun, apart, begun-le, insert-begun, remove-begun, spans-append}
use Rattle.gob_marks.proofs.Places.{times-before, times-begun, times-begun_none, done-times}

-- how often an offset is covered by what is done and by what is owed
once_is : (m : Marks) → Tiled m → (at : ℕ) → times at (done_spans m) + times at m.owed ≡ cond (nat_lt at m.next) 1 0
once_is m tiled at = sym (covered-is at m) ∙ tiled.once at

pub tiled_new_done : (m : Marks) (pipeline hi : ℕ) → Tiled m → m.next < hi
    → Tiled (with_new_done pipeline (next_span m hi) m)
tiled_new_done m pipeline hi tiled some = record {
  finished = subst (InOrder 0) (sym (spans-append m.finished (new ∷ [])))
      (order_append 0 (done_spans m) (next_span m hi) tiled.finished (λ t h. (done_below m tiled t h).1)
      (omega arith) some);
  owed = tiled.owed;
  once = λ at.
      (covered-is at (with_new_done pipeline (next_span m hi) m)
      ∙ ap (λ ss. times at ss + times at m.owed) (spans-append m.finished (new ∷ []))
      ∙ ap (λ n. n + times at m.owed) (times-append at (done_spans m) (next_span m hi ∷ []))) ∙ grown at;
}
  where
    new : Done
    new = record { span = next_span m hi; pipeline = pipeline }

    grown : (at : ℕ) → (times at (done_spans m) + (one_in at (next_span m hi) + 0)) + times at m.owed ≡ cond
        (nat_lt at hi) 1 0
    grown at =
        let once : times at (done_spans m) + times at m.owed ≡ cond (nat_lt at m.next) 1 0 = once_is m tiled at in
        grind (arith, nat_tests, some)

pub done-at : (at : ℕ) (m : Marks) → is_done at m ≡ nat_lt 0 (times at (done_spans m))
done-at at m = done-times at m.finished

pub covers_last : (at : ℕ) (m : Marks) (k : ℕ) (d : Span) → Tiled m → begun_by at (done_spans m) ≡ suc k
    → is_done at m ≡ nat_lt at (get_or (done_spans m) k d).hi
covers_last at m k d tiled is = done-at at m ∙ times-begun at 0 (done_spans m) k d tiled.finished is

pub covers_none : (at : ℕ) (m : Marks) → Tiled m → begun_by at (done_spans m) ≡ 0 → is_done at m ≡ false
covers_none at m tiled none =
    let zeroth : times at (done_spans m) ≡ 0 = times-begun_none at 0 (done_spans m) tiled.finished none in
    done-at at m ∙ ap (nat_lt 0) zeroth ∙ le-ltb 0 0 (omega arith)

all_done : (at : ℕ) (m : Marks) → Tiled m → at < m.next → times at m.owed ≡ 0 → is_done at m ≡ true
all_done at m tiled below none =
    let once : times at (done_spans m) + times at m.owed ≡ cond (nat_lt at m.next) 1 0 = once_is m tiled at in
    let one : times at (done_spans m) ≡ 1 = grind (arith, nat_tests, below, none, once) in
    done-at at m ∙ ap (nat_lt 0) one ∙ lt-ltb 0 1 (omega arith)

none_done : (at : ℕ) (m : Marks) → times at (done_spans m) ≡ 0 → is_done at m ≡ false
none_done at m none = done-at at m ∙ ap (nat_lt 0) none ∙ le-ltb 0 0 (omega arith)

-- the least open offset
pub watermark-open : (m : Marks) (s : Span) (ss : List Span) → Tiled m → m.owed ≡ s ∷ ss → IsWatermark s.lo m
watermark-open m s ss tiled is =
    let order : InOrder 0 (s ∷ ss) = subst (InOrder 0) is tiled.owed in
    let there : Contains m.owed s = subst (λ (us : List Span). Contains us s) (sym is) (first_in s ss s refl) in
    let low : s.hi ≤ m.next = owed_below m tiled s there in
    let some : s.lo < s.hi = order.1 in
    record {
      below = λ at before. all_done at m tiled (omega (arith, low, some, before))
          (ap (times at) is ∙ times-before at s.lo (s ∷ ss) before (omega arith, some, order.2));
      here =
          let one : 1 ≤ times s.lo m.owed = times_some s.lo m.owed s there (inside s.lo s (omega arith) some) in
          let once : times s.lo (done_spans m) + times s.lo m.owed ≡ cond (nat_lt s.lo m.next) 1 0 =
          once_is m tiled s.lo in
          let none : times s.lo (done_spans m) ≡ 0 = grind (arith, nat_tests, one, once) in
          none_done s.lo m none;
    }

-- or the end of what was taken
pub watermark-none : (m : Marks) → Tiled m → m.owed ≡ [] → IsWatermark m.next m
watermark-none m tiled is = record {
  below = λ at before. all_done at m tiled before (ap (times at) is);
  here =
      let once : times m.next (done_spans m) + times m.next m.owed ≡ cond (nat_lt m.next m.next) 1 0 =
      once_is m tiled m.next in
      let none : times m.next (done_spans m) ≡ 0 = grind (arith, nat_tests, once) in
      none_done m.next m none;
}

-- ---- a new range that is done is one that is owed and then done

insert-last : (d : Done) (es : List Done) → ((e : Done) → Contains es e → e.span.lo ≤ d.span.lo)
    → insert_done d es ≡ es ++ d ∷ []
insert-last d [] low = refl
insert-last d (e ∷ es) low =
    ap (λ v. cond v (d ∷ e ∷ es) (e ∷ insert_done d es)) (le-ltb d.span.lo e.span.lo (low e (first_in e es e refl)))
    ∙ ap (λ (fs : List Done). e ∷ fs) (insert-last d es (λ f h. low f (later_in e es f h)))

filter-last : (s : Span) (ss : List Span) → ((t : Span) → Contains ss t → t.lo < s.lo)
    → filter (λ o. not (same_span o s)) (ss ++ s ∷ []) ≡ ss
filter-last s [] low = ap (λ v. cond (not v) (s ∷ []) []) (same_itself s)
filter-last s (t ∷ ts) low =
    let before : t.lo < s.lo = low t (first_in t ts t refl) in
    ap (λ v. cond (not v) (t ∷ filter (λ o. not (same_span o s)) (ts ++ s ∷ []))
    (filter (λ o. not (same_span o s)) (ts ++ s ∷ []))) (apart t s (λ same. omega (arith, same, before)))
    ∙ ap (λ (us : List Span). t ∷ us) (filter-last s ts (λ u h. low u (later_in t ts u h)))

pub new_done-is : (m : Marks) (pipeline hi : ℕ) → Tiled m → m.next < hi
    → with_done pipeline (next_span m hi) (with_owed (next_span m hi) m) ≡ with_new_done pipeline (next_span m hi) m
new_done-is m pipeline hi tiled some =
    let finished : insert_done new m.finished ≡ m.finished ++ new ∷ [] =
    insert-last new m.finished (λ e h. let r =
    done_below m tiled e.span (map_in (λ (d : Done). d.span) m.finished e h) in omega (arith, r.0, r.1)) in
    let owed : filter (λ o. not (same_span o (next_span m hi))) (m.owed ++ next_span m hi ∷ []) ≡ m.owed =
    filter-last (next_span m hi) m.owed
    (λ t h. omega (arith, owed_below m tiled t h, (order_members 0 m.owed t tiled.owed h).1)) in
    λ i. record { next = hi; finished = finished i; owed = owed i }
  where
    new : Done
    new = record { span = next_span m hi; pipeline = pipeline }

-- ---- an open range that is found and committed

-- the lists after a commit
pub committed-is : (m : Marks) (s : Span) (pipeline k : ℕ) (d : Span) → Tiled m → begun_by s.lo m.owed ≡ suc k
    → get_or m.owed k d ≡ s
    → record {
      next = m.next;
      finished =
          insert m.finished (begun_by s.lo (done_spans m)) (record { span = s; pipeline = pipeline });
      owed =
          remove m.owed k;
    } ≡ with_done pipeline s m
committed-is m s pipeline k d tiled is here =
    let finished = insert-begun (record { span = s; pipeline = pipeline }) m.finished in
    let owed = remove-begun s 0 m.owed k d tiled.owed is here in
    λ i. record { next = m.next; finished = finished i; owed = owed i }

pub committed_tiled : (m : Marks) (s : Span) (pipeline k : ℕ) (d : Span) → Tiled m → begun_by s.lo m.owed ≡ suc k
    → get_or m.owed k d ≡ s → Tiled (with_done pipeline s m)
committed_tiled m s pipeline k d tiled is here =
    let within : k < length m.owed = omega (arith, is, begun-le s.lo m.owed) in
    tiled_done m pipeline s tiled (k, within, get_or_default m.owed k s d within ∙ here)

-- what a commit that finds the range leaves
pub after_commit : (m : Marks) (s r : Span) (pipeline begun place : ℕ) (ds : List Done) (os : List Span) → Tiled m
    → begun_by s.lo m.owed ≡ begun → (begun ≡ 0 → ⊥)
    → r ≡ get_or m.owed (begun - 1) r → same_span s r ≡ true → place ≡ begun_by s.lo (done_spans m)
    → ds ≡ insert m.finished place (record { span = s; pipeline = pipeline }) → os ≡ remove m.owed (begun - 1)
    → (record { next = m.next; finished = ds; owed = os } ≡ with_done pipeline s m) × Tiled (with_done pipeline s m)
after_commit m s r pipeline begun place ds os tiled is some read same there inserted removed =
    let count : begun_by s.lo m.owed ≡ suc (begun - 1) = omega (arith, is, some) in
    let here : get_or m.owed (begun - 1) r ≡ s = sym read ∙ sym (span_is s r same) in
    let finished : ds ≡ insert m.finished (begun_by s.lo (done_spans m)) (record { span = s; pipeline = pipeline }) =
    inserted ∙ ap (λ n. insert m.finished n (record { span = s; pipeline = pipeline })) there in (
      (λ i. record { next = m.next; finished = finished i; owed = removed i })
          ∙ committed-is m s pipeline (begun - 1) r tiled count here,
      committed_tiled m s pipeline
          (begun - 1) r tiled count here,
    )

-- where the range that was found is another, it isn't open
pub not_owed : (m : Marks) (s r : Span) (begun : ℕ) → Tiled m → begun_by s.lo m.owed ≡ begun → (begun ≡ 0 → ⊥)
    → r ≡ get_or m.owed (begun - 1) r → same_span s r ≡ false → list_any (same_span s) m.owed ≡ false
not_owed m s r begun tiled is some read differs =
    let count : begun_by s.lo m.owed ≡ suc (begun - 1) = omega (arith, is, some) in
    any-begun s 0 m.owed (begun - 1) r tiled.owed count ∙ ap (same_span s) (sym read) ∙ differs

any_in : (s : Span) (ss : List Span) → list_any (same_span s) ss ≡ true → Contains ss s
any_in s [] e = cc
any_in s (t ∷ ts) e = cases (same_span s t) refl e (any_in s ts)
  where
    cases : (v : Bool) → same_span s t ≡ v → (v || list_any (same_span s) ts) ≡ true
        → (list_any (same_span s) ts ≡ true → Contains ts s) → Contains (t ∷ ts) s
    cases true same e later = first_in t ts s (sym (span_is s t same))
    cases false same e later = later_in t ts s (later e)

-- whatever a commit answers, what tiled tiles
pub commit_tiled : (m n : Marks) (s : Span) (pipeline : ℕ) (answer : Bool) → Tiled m
    → answer ≡ list_any (same_span s) m.owed → (answer ≡ true → n ≡ with_done pipeline s m) → (answer ≡ false → n ≡ m)
    → Tiled n
commit_tiled m n s pipeline true tiled is committed kept =
    subst Tiled (sym (committed refl)) (tiled_done m pipeline s tiled (any_in s m.owed (sym is)))
commit_tiled m n s pipeline false tiled is committed kept = subst Tiled (sym (kept refl)) tiled
