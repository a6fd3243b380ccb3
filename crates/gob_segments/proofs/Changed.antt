-- What of a partition has changed, by its offsets.
use Rattle.std.proofs.Common.{◌≡◌, length-append, inl, inr, ⊎_elim, ℕ, ◌+◌, ◌<◌, ◌≤◌, Bool}
use Rattle.std.proofs.Common.{true, false, cond, not, ◌||◌, nat_lt, nat_eq, List, [], ◌∷◌, ◌++◌, map}
use Rattle.std.proofs.Common.{length, refl, sym, ap, subst, ◌∙◌, arith}
use Rattle.std.specs.List.{Contains, filter, flat_map, list_any}
use Rattle.std.proofs.lemmas.Bool.{ltb-true, lt-ltb, and_parts, and_from, eqb-true}
use Rattle.std.proofs.lemmas.Bool.Decides.{nat_tests}
use Rattle.gob_bytes.specs.Tables.{Table}
use Rattle.gob_ledger.specs.Marks.{Marks, Span, Done, Tiled, InOrder, has, is_done, done_spans}
use Rattle.gob_ledger.specs.State.{State}
use Rattle.gob_ledger.specs.Units.{same_span}
use Rattle.gob_ledger.specs.Spelling.{part_text, version_2}
use Rattle.gob_ledger.specs.Delta.{MarksFollow, OneMore, same_done, changed_marks, changed_part, has_ranges}
use Rattle.gob_ledger.proofs.Members.{none_in, first_in, later_in, in_cases, map_in}
use Rattle.gob_ledger.proofs.Ranges.{spans, inside, within, span_is, same_itself, order_members, order_from, owed_below}
use Rattle.gob_segments.specs.Written.{changed_text, changed_texts, new_done, new_open}

filter_alike : {X : Type 0} (p q : X → Bool) (xs : List X) → ((x : X) → Contains xs x → p x ≡ q x)
    → filter p xs ≡ filter q xs
filter_alike p q [] alike = refl
filter_alike {X} p q (x ∷ xs) alike =
    let rest : filter p xs ≡ filter q xs = filter_alike p q xs (λ y h. alike y (later_in x xs y h)) in
    ap (λ b. cond b (x ∷ filter p xs) (filter p xs)) (alike x (first_in x xs x refl))
    ∙ ap (λ (ys : List X). cond (q x) (x ∷ ys) ys) rest

-- a test that holds of some member
pub any_some : {X : Type 0} (f : X → Bool) (xs : List X) → list_any f xs ≡ true → (x : X) × Contains xs x × (f x ≡ true)
any_some f [] e = cc
any_some {X} f (x ∷ xs) e = cases (f x) refl e (any_some f xs)
  where
    cases : (v : Bool) → f x ≡ v → (v || list_any f xs) ≡ true
        → (list_any f xs ≡ true → (y : X) × Contains xs y × (f y ≡ true)) → (y : X) × Contains (x ∷ xs) y × (f y ≡ true)
    cases true is e later = (x, first_in x xs x refl, is)
    cases false is e later = let r = later e in (r.0, later_in x xs r.0 r.1, r.2)

pub some_any : {X : Type 0} (f : X → Bool) (xs : List X) (x : X) → Contains xs x → f x ≡ true → list_any f xs ≡ true
some_any f [] x h e = none_in x h
some_any {X} f (y ∷ ys) x h e = ⊎_elim
    (λ same. ap (λ b. b || list_any f ys) (ap f same ∙ e))
    (λ k. later (f y) (some_any f ys x k e))
    (in_cases y ys x h)
  where
    later : (b : Bool) → list_any f ys ≡ true → (b || list_any f ys) ≡ true
    later true is = refl
    later false is = is

-- two tests agree that hold of the same
agree : (a b : Bool) → (a ≡ true → b ≡ true) → (b ≡ true → a ≡ true) → a ≡ b
agree true b f g = sym (f refl)
agree false true f g = g refl
agree false false f g = refl

done_is : (d e : Done) → same_done d e ≡ true → d ≡ e
done_is d e is =
    let p = and_parts (same_span d.span e.span) (nat_eq d.pipeline e.pipeline) is in
    let s = span_is d.span e.span p.0 in
    let n = eqb-true d.pipeline e.pipeline p.1 in
    λ i. record { span = s i; pipeline = n i }

same_done-itself : (d : Done) → same_done d d ≡ true
same_done-itself d = and_from (same_span d.span d.span) (nat_eq d.pipeline d.pipeline) (same_itself d.span)
    (grind (arith, nat_tests))

-- an offset lies in one range of a list in order alone
pub one_holds : {X : Type 0} (f : X → Span) (at from : ℕ) (xs : List X) (x y : X) → InOrder from (map f xs)
    → Contains xs x → Contains xs y → has at (f x) ≡ true → has at (f y) ≡ true → x ≡ y
one_holds f at from [] x y order h k p q = none_in x h
one_holds {X} f at from (z ∷ zs) x y (a, b, c) h k p q = ⊎_elim
    (λ same. ⊎_elim
    (λ alike. sym same ∙ alike)
    (λ l. absurd (apart y l (subst (λ (w : X). has at (f w) ≡ true) (sym same) p) q))
    (in_cases z zs y k))
    (λ l. ⊎_elim
    (λ alike. absurd (apart x l (subst (λ (w : X). has at (f w) ≡ true) (sym alike) q) p))
    (λ m. one_holds f at (f z).hi zs x y c l m p q)
    (in_cases z zs y k))
    (in_cases z zs x h)
  where
    apart : (w : X) → Contains zs w → has at (f z) ≡ true → has at (f w) ≡ true → ⊥
    apart w l r t =
        let low = (order_members (f z).hi (map f zs) (f w) c (map_in f zs w l)).0 in
        let u = within at (f z) r in
        let v = within at (f w) t in
        omega (arith, low, u.1, v.0)

-- a done range of the later marks was done exactly where the earlier ones cover its beginning
pub known-done : (before after : Marks) (d : Done) → MarksFollow before after → Tiled before → Tiled after
    → Contains after.finished d → list_any (same_done d) before.finished ≡ is_done d.span.lo before
known-done before after d follow tiled later there =
    agree (list_any (same_done d) before.finished) (is_done d.span.lo before) covers known
  where
    some : d.span.lo < d.span.hi
    some = (order_members 0 (done_spans after) d.span later.finished
        (map_in (λ (e : Done). e.span) after.finished d there)).1

    itself : has d.span.lo d.span ≡ true
    itself = inside d.span.lo d.span (omega arith) some

    covers : list_any (same_done d) before.finished ≡ true → is_done d.span.lo before ≡ true
    covers e =
        let r = any_some (same_done d) before.finished e in
        some_any (λ (x : Done). has d.span.lo x.span) before.finished r.0 r.1
        (subst (λ (x : Done). has d.span.lo x.span ≡ true) (done_is d r.0 r.2) itself)

    known : is_done d.span.lo before ≡ true → list_any (same_done d) before.finished ≡ true
    known e =
        let r = any_some (λ (x : Done). has d.span.lo x.span) before.finished e in
        let same : d ≡ r.0 = one_holds (λ (e : Done). e.span) d.span.lo 0 after.finished d r.0 later.finished there
        (follow.finished r.0 r.1) itself r.2 in
        some_any (same_done d) before.finished r.0 r.1
        (subst (λ (x : Done). same_done d x ≡ true) same (same_done-itself d))

-- an open one was open exactly where it begins before the earlier end
pub known-open : (before after : Marks) (s : Span) → MarksFollow before after → Tiled before → Contains after.owed s
    → list_any (same_span s) before.owed ≡ nat_lt s.lo before.next
known-open before after s follow tiled there =
    agree (list_any (same_span s) before.owed) (nat_lt s.lo before.next) low known
  where
    low : list_any (same_span s) before.owed ≡ true → nat_lt s.lo before.next ≡ true
    low e =
        let r = any_some (same_span s) before.owed e in
        let is : Contains before.owed s = subst (λ (x : Span). Contains before.owed x) (sym (span_is s r.0 r.2)) r.1 in
        let end = owed_below before tiled s is in
        let some = (order_members 0 before.owed s tiled.owed is).1 in
        lt-ltb s.lo before.next (omega (arith, end, some))

    known : nat_lt s.lo before.next ≡ true → list_any (same_span s) before.owed ≡ true
    known e = ⊎_elim
        (λ h. some_any (same_span s) before.owed s h (same_itself s))
        (λ over. let below = ltb-true s.lo before.next e in absurd (omega (arith, over, below)))
        (follow.new_owed s there)

pub changed_marks-is : (before after : Marks) → MarksFollow before after → Tiled before → Tiled after
    → changed_marks before after ≡ record after {
      finished = new_done before after.finished;
      owed =
          new_open before.next after.owed;
    }
changed_marks-is before after follow tiled later =
    let finished : filter (λ d. not (list_any (same_done d) before.finished)) after.finished
    ≡ new_done before after.finished =
    filter_alike (λ d. not (list_any (same_done d) before.finished))
    (λ d. not (is_done d.span.lo before)) after.finished
    (λ d h. ap not (known-done before after d follow tiled later h)) in
    let owed : filter (λ s. not (list_any (same_span s) before.owed)) after.owed ≡ new_open before.next after.owed =
    filter_alike (λ s. not (list_any (same_span s) before.owed)) (λ s. not (nat_lt s.lo before.next)) after.owed
    (λ s h. ap not (known-open before after s follow tiled h)) in
    λ i. record { next = after.next; finished = finished i; owed = owed i }

-- ---- order of what is left

pub order_kept : (p : Done → Bool) (from : ℕ) (ds : List Done) → InOrder from (spans ds)
    → InOrder from (spans (filter p ds))
order_kept p from [] order = tt
order_kept p from (d ∷ ds) (a, b, c) =
    elim (p d) as (λ v. InOrder from (spans (cond v (d ∷ filter p ds) (filter p ds)))) [
      | true ↦ (a, b, order_kept p d.span.hi ds c)
      | false ↦ order_from from d.span.hi (spans (filter p ds)) (omega arith) (order_kept p d.span.hi ds c)
    ]

-- ---- the texts of the partitions

pub changed_texts-is : (s : State) (es : Table Marks)
    → flat_map (part_text version_2) (filter has_ranges (map (changed_part s) es)) ≡ changed_texts s.parts es
changed_texts-is s [] = refl
changed_texts-is s (e ∷ es) = elim (has_ranges (changed_part s e)) as (λ v.
    flat_map (part_text version_2)
    (cond v (changed_part s e ∷ filter has_ranges (map (changed_part s) es))
    (filter has_ranges (map (changed_part s) es)))
    ≡ cond v (part_text version_2 (changed_part s e)) [] ++ changed_texts s.parts es) [
      | true ↦ ap (λ t. part_text version_2 (changed_part s e) ++ t) (changed_texts-is s es)
      | false ↦ changed_texts-is s es
    ]

-- what of a partition's marks is spelled
abbrev pub marks_since : Marks → Marks → Marks
marks_since before after = record after {
  finished = new_done before after.finished;
  owed = new_open before.next after.owed;
}

abbrev text_of : List ℕ → Marks → List ℕ
text_of part m = cond (has_ranges (part, m)) (part_text version_2 (part, m)) []

pub changed_text-none : (part : List ℕ) (before after : Marks) → MarksFollow before after → Tiled before → Tiled after
    → nat_lt 0 (length (new_done before after.finished) + length (new_open before.next after.owed)) ≡ false
    → changed_text part before after ≡ []
changed_text-none part before after follow tiled later none =
    ap (text_of part) (changed_marks-is before after follow tiled later)
    ∙ ap (λ v. cond v (part_text version_2 (part, marks_since before after)) []) none

pub changed_text-some : (part : List ℕ) (before after : Marks) → MarksFollow before after → Tiled before → Tiled after
    → nat_lt 0 (length (new_done before after.finished) + length (new_open before.next after.owed)) ≡ true
    → changed_text part before after ≡ part_text version_2 (part, marks_since before after)
changed_text-some part before after follow tiled later some =
    ap (text_of part) (changed_marks-is before after follow tiled later)
    ∙ ap (λ v. cond v (part_text version_2 (part, marks_since before after)) []) some

-- a later list of pipelines has the earlier ones at least
pub more_pipelines : (before after : List (List ℕ)) → OneMore before after → length before ≤ length after
more_pipelines before after (inl same) = omega (arith, ap length same)
more_pipelines before after (inr (p, is)) = omega (arith, ap length is, length-append before (p ∷ []))
