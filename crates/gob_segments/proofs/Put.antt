-- Ranges of a change that are put over marks, one after the other.
use Rattle.std.proofs.Common.{◌≡◌, ◌⊎◌, inl, inr, ⊎_elim, ℕ, ◌+◌, ◌<◌, ◌≤◌, Bool, true, false, cond, not, nat_le}
use Rattle.std.proofs.Common.{nat_lt, List, [], ◌∷◌, ◌++◌, map, length, refl, sym, ap, subst, ◌∙◌, append-nil, arith}
use Rattle.std.specs.List.{Contains, filter, list_any}
use Rattle.std.proofs.lemmas.Bool.{and_parts, cases_Bool, cases_lt, leb-true, le-ltb, lt-ltb, ltb-true, ltb-false}
use Rattle.std.proofs.lemmas.Bool.{not-true, not_from_false, true≢false}
use Rattle.std.proofs.lemmas.List.Elements.{Contains-append_cases, Contains-append_left, Contains-append_right}
use Rattle.gob_ledger.specs.Marks as marks
use Rattle.gob_ledger.specs.Marks.{Marks, Span, InOrder, Tiled, done_spans, has, times_covered}
use Rattle.gob_ledger.specs.Next.{insert_done, with_done, with_owed}
use Rattle.gob_ledger.specs.Spelling.{Version}
use Rattle.gob_ledger.specs.Units.{same_span}
use Rattle.gob_ledger.specs.Delta.{MarksFollow, changed_marks}
use Rattle.gob_ledger.proofs.InLine.{span_in}
use Rattle.gob_ledger.proofs.Members.{none_in, first_in, later_in, in_cases, in_filter, filter_in, in_map, map_in}
use Rattle.gob_ledger.proofs.Merging.{any_done, any_span, done_any, filter_order, is_new, is_new_owed, same_sorted}
use Rattle.gob_ledger.proofs.Merging.{span_any, starts_apart}
use Rattle.gob_ledger.proofs.Ranges.{covered-is, done_below, inside, order_append, order_filter, order_from, spans}
use Rattle.gob_ledger.proofs.Ranges.{order_members, owed_below, owed_free, same_itself, span_is, tiled_done, tiled_owed}
use Rattle.gob_ledger.proofs.Ranges.{times, times_some, within}
use Rattle.gob_ledger.proofs.Reading.{gathered, gathered_mixed}
use Rattle.gob_ledger.proofs.StateLines.{Range, lo_of, mixed, mixed_rises, put_range, rises_from}
use Rattle.gob_ledger.proofs.Tiling.{in_insert, insert_in}
use Rattle.gob_ledger.proofs.Following.{follow_itself}
use Rattle.gob_marks.proofs.Tiles.{tiled_new_done}
use Rattle.gob_marks.specs.Changed.{with_new_done}
use Rattle.gob_state.proofs.RangeLemmas.{range_of, small_hi}
use Rattle.gob_state.specs.Ranges.{AreMarks, IndexIs, IsRangeLine}
use Rattle.gob_state.specs.declared.ranges.RangeLine.{RangeLine}
use Rattle.gob_state.specs.declared.ranges.RangeLine.TheVariants.{Done, Open}
use Rattle.gob_segments.proofs.Changed.{one_holds}
use Rattle.gob_segments.specs.Applied.{CanPut, MarksAfter, begin_of, with_range_line}

-- ---- lists

filter_push : {X : Type 0} (p : X → Bool) (xs : List X) (x : X) → p x ≡ true
    → filter p (xs ++ x ∷ []) ≡ filter p xs ++ x ∷ []
filter_push p [] x e = ap (λ b. cond b (x ∷ []) []) e
filter_push {X} p (y ∷ ys) x e = elim (p y) as
    (λ b. cond b (y ∷ filter p (ys ++ x ∷ [])) (filter p (ys ++ x ∷ [])) ≡ cond b (y ∷ filter p ys) (filter p ys)
    ++ x ∷ []) [
      | true ↦ ap (λ (zs : List X). y ∷ zs) (filter_push p ys x e)
      | false ↦ filter_push p ys x e
    ]

-- a filter that lets through all that a further one does changes nothing of it
filter_under : {X : Type 0} (p q : X → Bool) (xs : List X) → ((x : X) → p x ≡ true → q x ≡ true)
    → filter p (filter q xs) ≡ filter p xs
filter_under p q [] less = refl
filter_under {X} p q (x ∷ xs) less = cases (q x) refl (p x) refl (filter_under p q xs less)
  where
    cases : (b : Bool) → q x ≡ b → (c : Bool) → p x ≡ c → filter p (filter q xs) ≡ filter p xs
        → filter p (cond b (x ∷ filter q xs) (filter q xs)) ≡ cond c (x ∷ filter p xs) (filter p xs)
    cases true e true f rest = ap (λ c. cond c (x ∷ filter p (filter q xs)) (filter p (filter q xs))) f
        ∙ ap (λ (zs : List X). x ∷ zs) rest
    cases true e false f rest = ap (λ c. cond c (x ∷ filter p (filter q xs)) (filter p (filter q xs))) f ∙ rest
    cases false e true f rest = absurd (true≢false (sym (less x f) ∙ e))
    cases false e false f rest = rest

spans_push : (ds : List marks.Done) (d : marks.Done) → spans (ds ++ d ∷ []) ≡ spans ds ++ d.span ∷ []
spans_push [] d = refl
spans_push (e ∷ ds) d = ap (λ (ss : List Span). e.span ∷ ss) (spans_push ds d)

-- ---- mixed ranges

put_push : (r q : Range) (rs : List Range) → lo_of r < lo_of q
    → put_range r (rs ++ q ∷ []) ≡ put_range r rs ++ q ∷ []
put_push r q [] below = ap (λ b. cond b (r ∷ q ∷ []) (q ∷ r ∷ [])) (lt-ltb (lo_of r) (lo_of q) below)
put_push r q (x ∷ rs) below = elim (nat_lt (lo_of r) (lo_of x)) as
    (λ b. cond b (r ∷ x ∷ (rs ++ q ∷ [])) (x ∷ put_range r (rs ++ q ∷ [])) ≡ cond b (r ∷ x ∷ rs) (x ∷ put_range r rs)
    ++ q ∷ []) [
      | true ↦ refl
      | false ↦ ap (λ (ys : List Range). x ∷ ys) (put_push r q rs below)
    ]

owed_push : (os : List Span) (s : Span) → map inr (os ++ s ∷ []) ≡ mixed [] os ++ inr s ∷ []
owed_push [] s = refl
owed_push (o ∷ os) s = ap (λ (ys : List Range). inr o ∷ ys) (owed_push os s)

mixed_owed : (ds : List marks.Done) (os : List Span) (s : Span)
    → ((d : marks.Done) → Contains ds d → d.span.lo < s.lo) → mixed ds (os ++ s ∷ []) ≡ mixed ds os ++ inr s ∷ []
mixed_owed [] os s below = owed_push os s
mixed_owed (d ∷ ds) os s below =
    ap (put_range (inl d)) (mixed_owed ds os s (λ e h. below e (later_in d ds e h)))
    ∙ put_push (inl d) (inr s) (mixed ds os) (below d (first_in d ds d refl))

done_behind : (os : List Span) (d : marks.Done) → ((s : Span) → Contains os s → s.lo < d.span.lo)
    → put_range (inl d) (mixed [] os) ≡ mixed [] os ++ inl d ∷ []
done_behind [] d below = refl
done_behind (o ∷ os) d below =
    let low = below o (first_in o os o refl) in
    ap (λ b. cond b (inl d ∷ inr o ∷ mixed [] os) (inr o ∷ put_range (inl d) (mixed [] os)))
    (le-ltb d.span.lo o.lo (omega (arith, low)))
    ∙ ap (λ (ys : List Range). inr o ∷ ys) (done_behind os d (λ s h. below s (later_in o os s h)))

mixed_done : (ds : List marks.Done) (os : List Span) (d : marks.Done)
    → ((e : marks.Done) → Contains ds e → e.span.lo < d.span.lo) → ((s : Span) → Contains os s → s.lo < d.span.lo)
    → mixed (ds ++ d ∷ []) os ≡ mixed ds os ++ inl d ∷ []
mixed_done [] os d done owed = done_behind os d owed
mixed_done (e ∷ ds) os d done owed =
    ap (put_range (inl e)) (mixed_done ds os d (λ x h. done x (later_in e ds x h)) owed)
    ∙ put_push (inl e) (inl d) (mixed ds os) (done e (first_in e ds e refl))

-- ---- which ranges are among mixed ones

pub gathered_done : (rs : List Range) (d : marks.Done) → Contains rs (inl d) → Contains (gathered rs).finished d
gathered_done [] d h = none_in (inl d) h
gathered_done (inl e ∷ rs) d h = ⊎_elim
    (λ same. first_in e (gathered rs).finished d (let is : e ≡ d = cc in is))
    (λ k. later_in e (gathered rs).finished d (gathered_done rs d k))
    (in_cases (inl e) rs (inl d) h)
gathered_done (inr s ∷ rs) d h = ⊎_elim
    (λ same. absurd (let never : inr s ≡ inl d = same in cc))
    (λ k. gathered_done rs d k)
    (in_cases (inr s) rs (inl d) h)

pub gathered_owed : (rs : List Range) (s : Span) → Contains rs (inr s) → Contains (gathered rs).owed s
gathered_owed [] s h = none_in (inr s) h
gathered_owed (inl e ∷ rs) s h = ⊎_elim
    (λ same. absurd (let never : inl e ≡ inr s = same in cc))
    (λ k. gathered_owed rs s k)
    (in_cases (inl e) rs (inr s) h)
gathered_owed (inr o ∷ rs) s h = ⊎_elim
    (λ same. first_in o (gathered rs).owed s (let is : o ≡ s = cc in is))
    (λ k. later_in o (gathered rs).owed s (gathered_owed rs s k))
    (in_cases (inr o) rs (inr s) h)

done_gathered : (rs : List Range) (d : marks.Done) → Contains (gathered rs).finished d → Contains rs (inl d)
done_gathered [] d h = none_in d h
done_gathered (inl e ∷ rs) d h = ⊎_elim
    (λ same. first_in (inl e) rs (inl d) (ap inl same))
    (λ k. later_in (inl e) rs (inl d) (done_gathered rs d k))
    (in_cases e (gathered rs).finished d h)
done_gathered (inr s ∷ rs) d h = later_in (inr s) rs (inl d) (done_gathered rs d h)

owed_gathered : (rs : List Range) (s : Span) → Contains (gathered rs).owed s → Contains rs (inr s)
owed_gathered [] s h = none_in s h
owed_gathered (inl e ∷ rs) s h = later_in (inl e) rs (inr s) (owed_gathered rs s h)
owed_gathered (inr o ∷ rs) s h = ⊎_elim
    (λ same. first_in (inr o) rs (inr s) (ap inr same))
    (λ k. later_in (inr o) rs (inr s) (owed_gathered rs s k))
    (in_cases o (gathered rs).owed s h)

-- ---- the changed ranges of marks

abbrev pub changed_ranges : Marks → Marks → List Range
changed_ranges b m = mixed (changed_marks b m).finished (changed_marks b m).owed

pub parted : (b m : Marks) → Tiled m
    → gathered (changed_ranges b m)
    ≡ record { next = 0; finished = (changed_marks b m).finished; owed = (changed_marks b m).owed }
parted b m tiled = gathered_mixed 0 (changed_marks b m).finished (changed_marks b m).owed
    (filter_order (is_new b) 0 m.finished tiled.finished)

-- a changed done range is one of the later marks, and none of the earlier ones
pub changed_done : (b m : Marks) (d : marks.Done) → Tiled m → Contains (changed_ranges b m) (inl d)
    → Contains m.finished d × (Contains b.finished d → ⊥)
changed_done b m d tiled h =
    let k = subst (λ (x : Marks). Contains x.finished d) (parted b m tiled) (gathered_done (changed_ranges b m) d h) in
    let r = in_filter (is_new b) m.finished d k in (
      r.0,
      λ l. true≢false (sym (done_any d b.finished l) ∙ not-true (list_any _ b.finished) r.1),
    )

pub changed_owed : (b m : Marks) (s : Span) → Tiled m → Contains (changed_ranges b m) (inr s)
    → Contains m.owed s × (Contains b.owed s → ⊥)
changed_owed b m s tiled h =
    let k = subst (λ (x : Marks). Contains x.owed s) (parted b m tiled) (gathered_owed (changed_ranges b m) s h) in
    let r = in_filter (is_new_owed b) m.owed s k in (
      r.0,
      λ l. true≢false (sym (span_any s b.owed l) ∙ not-true (list_any _ b.owed) r.1),
    )

new_done : (b : Marks) (d : marks.Done) → (Contains b.finished d → ⊥) → is_new b d ≡ true
new_done b d never = not_from_false (list_any _ b.finished)
    (⊎_elim (λ e. absurd (never (any_done d b.finished e))) (λ e. e) (cases_Bool (list_any _ b.finished)))

new_owed : (b : Marks) (s : Span) → (Contains b.owed s → ⊥) → is_new_owed b s ≡ true
new_owed b s never = not_from_false (list_any (same_span s) b.owed)
    (⊎_elim (λ e. absurd (never (any_span s b.owed e))) (λ e. e) (cases_Bool (list_any (same_span s) b.owed)))

done_changed : (b m : Marks) (d : marks.Done) → Tiled m → Contains m.finished d → (Contains b.finished d → ⊥)
    → Contains (changed_ranges b m) (inl d)
done_changed b m d tiled h never = done_gathered (changed_ranges b m) d
    (subst (λ (x : Marks). Contains x.finished d) (sym (parted b m tiled))
    (filter_in (is_new b) m.finished d h (new_done b d never)))

owed_changed : (b m : Marks) (s : Span) → Tiled m → Contains m.owed s → (Contains b.owed s → ⊥)
    → Contains (changed_ranges b m) (inr s)
owed_changed b m s tiled h never = owed_gathered (changed_ranges b m) s
    (subst (λ (x : Marks). Contains x.owed s) (sym (parted b m tiled))
    (filter_in (is_new_owed b) m.owed s h (new_owed b s never)))

-- a done range is one of the earlier ones or has changed
pub old_or_changed : (b m : Marks) (d : marks.Done) → Tiled m → Contains m.finished d
    → Contains b.finished d ⊎ Contains (changed_ranges b m) (inl d)
old_or_changed b m d tiled h = ⊎_elim
    (λ e. inl (any_done d b.finished e))
    (λ e. inr (done_gathered (changed_ranges b m) d
    (subst (λ (x : Marks). Contains x.finished d) (sym (parted b m tiled))
    (filter_in (is_new b) m.finished d h (not_from_false (list_any _ b.finished) e)))))
    (cases_Bool (list_any _ b.finished))

pub owed_or_changed : (b m : Marks) (s : Span) → Tiled m → Contains m.owed s
    → Contains b.owed s ⊎ Contains (changed_ranges b m) (inr s)
owed_or_changed b m s tiled h = ⊎_elim
    (λ e. inl (any_span s b.owed e))
    (λ e. inr (owed_gathered (changed_ranges b m) s
    (subst (λ (x : Marks). Contains x.owed s) (sym (parted b m tiled))
    (filter_in (is_new_owed b) m.owed s h (not_from_false (list_any (same_span s) b.owed) e)))))
    (cases_Bool (list_any (same_span s) b.owed))

-- ---- changed ranges rise

pub ranges_rise : (b m : Marks) → Tiled m → rises_from 0 (changed_ranges b m) ≡ true
ranges_rise b m tiled = mixed_rises 0 (changed_marks b m).finished (changed_marks b m).owed
    (filter_order (is_new b) 0 m.finished tiled.finished) (order_filter (is_new_owed b) 0 m.owed tiled.owed)
    (λ d s h k. starts_apart m tiled d s (in_filter (is_new b) m.finished d h).0
    (in_filter (is_new_owed b) m.owed s k).0)

risen_above : (low : ℕ) (rs : List Range) (r : Range) → rises_from low rs ≡ true → Contains rs r → low ≤ lo_of r
risen_above low [] r rise h = none_in r h
risen_above low (q ∷ rs) r rise h =
    let p = and_parts (nat_le low (lo_of q)) (rises_from (lo_of q + 1) rs) rise in
    let here : low ≤ lo_of q = leb-true low (lo_of q) p.0 in
    ⊎_elim
    (λ same. subst (λ (x : Range). low ≤ lo_of x) same here)
    (λ k. let above = risen_above (lo_of q + 1) rs r p.1 k in omega (arith, above, here))
    (in_cases q rs r h)

-- a range among rising ones is above those before it, and below those behind it
pub record Between (xs : List Range) (z : Range) (zs : List Range) : Type 0 where
  pub before : (x : Range) → Contains xs x → lo_of x < lo_of z
  pub behind : (y : Range) → Contains zs y → lo_of z < lo_of y

pub between : (low : ℕ) (xs : List Range) (z : Range) (zs : List Range) → rises_from low (xs ++ z ∷ zs) ≡ true
    → Between xs z zs
between low [] z zs rise =
    let p = and_parts (nat_le low (lo_of z)) (rises_from (lo_of z + 1) zs) rise in
    record {
      before = λ x h. none_in x h;
      behind = λ y h. let above = risen_above (lo_of z + 1) zs y p.1 h in omega (arith, above);
    }
between low (x ∷ xs) z zs rise =
    let p = and_parts (nat_le low (lo_of x)) (rises_from (lo_of x + 1) (xs ++ z ∷ zs)) rise in
    let rest = between (lo_of x + 1) xs z zs p.1 in
    let here : lo_of x < lo_of z =
    let above = risen_above (lo_of x + 1) (xs ++ z ∷ zs) z p.1
    (Contains-append_right xs (z ∷ zs) z (first_in z zs z refl)) in omega (arith, above) in
    record {
      before = λ y h. ⊎_elim (λ same. subst (λ (w : Range). lo_of w < lo_of z) same here) (λ k. rest.before y k)
          (in_cases x xs y h);
      behind = rest.behind;
    }

-- ---- marks over which ranges were put

-- these ranges were put over marks, and made those; the next one begins at `from` or behind it
pub record Put (v : Version) (n : ℕ) (b m : Marks) (from : ℕ) (xs : List Range) : Type 0 where
  pub follow : MarksFollow b m
  pub are : AreMarks v n m
  pub mixes : xs ≡ changed_ranges b m
  pub below : (r : Range) → Contains xs r → lo_of r < from
  pub top : from ≤ m.next
  pub from_is : (from ≡ 0) ⊎ ((r : Range) × Contains xs r × (from ≡ lo_of r + 1))

pub none_kept : {X : Type 0} (p : X → Bool) (xs : List X) → ((x : X) → Contains xs x → p x ≡ false) → filter p xs ≡ []
none_kept p [] none = refl
none_kept {X} p (x ∷ xs) none =
    ap (λ b. cond b (x ∷ filter p xs) (filter p xs)) (none x (first_in x xs x refl))
    ∙ none_kept p xs (λ y h. none y (later_in x xs y h))

-- marks have changed in nothing from themselves
pub none_changed : (m : Marks) → changed_marks m m ≡ record { next = m.next; finished = []; owed = [] }
none_changed m =
    let done : (changed_marks m m).finished ≡ [] = none_kept (is_new m) m.finished
    (λ d h. ap not (done_any d m.finished h)) in
    let owed : (changed_marks m m).owed ≡ [] = none_kept (is_new_owed m) m.owed (λ s h. ap not (span_any s m.owed h)) in
    λ i. record { next = m.next; finished = done i; owed = owed i }

pub none_put : (v : Version) (n : ℕ) (b : Marks) → AreMarks v n b → Put v n b b 0 []
none_put v n b are = record {
  follow = follow_itself b;
  are = are;
  mixes = sym (ap (λ (m : Marks). mixed m.finished m.owed) (none_changed b));
  below = λ r h. none_in r h;
  top = omega arith;
  from_is = inl refl;
}

-- ---- one range more

-- what is to be known of marks with one range more
record Grows (b m after : Marks) (r : Range) : Type 0 where
  follow : MarksFollow b after
  mixes : changed_ranges b after ≡ changed_ranges b m ++ r ∷ []
  top : lo_of r + 1 ≤ after.next

grown_put : (v : Version) (n : ℕ) (b m after : Marks) (from : ℕ) (xs : List Range) (r : Range) → Put v n b m from xs
    → Grows b m after r → from ≤ lo_of r → AreMarks v n after → Put v n b after (lo_of r + 1) (xs ++ r ∷ [])
grown_put v n b m after from xs r p g low are = record {
  follow = g.follow;
  are = are;
  mixes = ap (λ ys. ys ++ r ∷ []) p.mixes ∙ sym g.mixes;
  below = λ q h. ⊎_elim
      (λ k. let less = p.below q k in omega (arith, less, low))
      (λ k. ⊎_elim
      (λ same. let level : lo_of r ≡ lo_of q = ap lo_of same in omega (arith, level))
      (λ l. none_in q l) (in_cases r [] q k))
      (Contains-append_cases xs (r ∷ []) q h);
  top = g.top;
  from_is = inr (r, Contains-append_right xs (r ∷ []) r (first_in r [] r refl), refl);
}

-- the changed ranges begin below `from`
low_done : (v : Version) (n : ℕ) (b m : Marks) (from : ℕ) (xs : List Range) → Put v n b m from xs → (d : marks.Done)
    → Contains (changed_marks b m).finished d → d.span.lo < from
low_done v n b m from xs p d h =
    let r = in_filter (is_new b) m.finished d h in
    p.below (inl d) (subst (λ ys. Contains ys (inl d)) (sym p.mixes)
    (done_gathered (changed_ranges b m) d
    (subst (λ (x : Marks). Contains x.finished d) (sym (parted b m p.are.tiled)) h)))

low_owed : (v : Version) (n : ℕ) (b m : Marks) (from : ℕ) (xs : List Range) → Put v n b m from xs → (s : Span)
    → Contains (changed_marks b m).owed s → s.lo < from
low_owed v n b m from xs p s h =
    p.below (inr s) (subst (λ ys. Contains ys (inr s)) (sym p.mixes)
    (owed_gathered (changed_ranges b m) s
    (subst (λ (x : Marks). Contains x.owed s) (sym (parted b m p.are.tiled)) h)))

-- an earlier range ends where the later marks do, or before
pub done_low : (b m : Marks) → Tiled b → MarksFollow b m → (d : marks.Done) → Contains b.finished d
    → d.span.lo < d.span.hi × d.span.hi ≤ m.next
done_low b m tiled follow d h =
    let r = done_below b tiled d.span (map_in (λ (e : marks.Done). e.span) b.finished d h) in
    let next = follow.next in (r.0, omega (arith, r.1, next))

pub owed_low : (b m : Marks) → Tiled b → MarksFollow b m → (s : Span) → Contains b.owed s → (s.lo < s.hi)
    × (s.hi ≤ m.next)
owed_low b m tiled follow s h =
    let below = owed_below b tiled s h in
    let next = follow.next in
    ((order_members 0 b.owed s tiled.owed h).1, omega (arith, below, next))

grows_open : (v : Version) (n : ℕ) (b m : Marks) (from : ℕ) (xs : List Range) (s : Span) → Tiled b
    → Put v n b m from xs → s.lo ≡ m.next → s.lo < s.hi → Grows b m (with_owed s m) (inr s)
grows_open v n b m from xs s tiled p at some =
    let follow = p.follow in
    let top = p.top in
    let owed : (changed_marks b (with_owed s m)).owed ≡ (changed_marks b m).owed ++ s ∷ [] =
    filter_push (is_new_owed b) m.owed s (new_owed b s (λ h.
    let r = owed_low b m tiled follow s h in omega (arith, r.1, at, some))) in
    record {
      follow = record {
        next = let next = follow.next in omega (arith, next, at, some);
        finished = follow.finished;
        owed = λ o h. ⊎_elim (λ k. inl (Contains-append_left m.owed (s ∷ []) o k)) (λ k. inr k) (follow.owed o h);
        new_done = follow.new_done;
        new_owed = λ o h. ⊎_elim
            (λ k. follow.new_owed o k)
            (λ k. ⊎_elim
            (λ same. inr (let next = follow.next in let level : s.lo ≡ o.lo = ap (λ (x : Span). x.lo) same in
            omega (arith, next, level, at)))
            (λ l. none_in o l) (in_cases s [] o k))
            (Contains-append_cases m.owed (s ∷ []) o h);
      };
      mixes = ap (mixed (changed_marks b m).finished) owed
          ∙ mixed_owed (changed_marks b m).finished (changed_marks b m).owed s
          (λ d h. let low = low_done v n b m from xs p d h in omega (arith, low, top, at));
      top = omega (arith, some);
    }

grows_done : (v : Version) (n : ℕ) (b m : Marks) (from : ℕ) (xs : List Range) (d : marks.Done) → Tiled b
    → Put v n b m from xs → d.span.lo ≡ m.next → d.span.lo < d.span.hi
    → Grows b m (with_new_done d.pipeline d.span m) (inl d)
grows_done v n b m from xs d tiled p at some =
    let follow = p.follow in
    let top = p.top in
    let done : (changed_marks b (with_new_done d.pipeline d.span m)).finished ≡ (changed_marks b m).finished ++ d ∷ [] =
    filter_push (is_new b) m.finished d (new_done b d (λ h.
    let r = done_low b m tiled follow d h in omega (arith, r.1, at, some))) in
    record {
      follow = record {
        next = let next = follow.next in omega (arith, next, at, some);
        finished = λ e h. Contains-append_left m.finished (d ∷ []) e (follow.finished e h);
        owed = λ o h. ⊎_elim (λ k. inl k)
            (λ k. inr (k.0, Contains-append_left m.finished (d ∷ []) k.0 k.1, k.2)) (follow.owed o h);
        new_done = λ e h. ⊎_elim
            (λ k. follow.new_done e k)
            (λ k. ⊎_elim
            (λ same. inr (inr (let next = follow.next in let level : d.span.lo ≡ e.span.lo =
            ap (λ (x : marks.Done). x.span.lo) same in omega (arith, next, level, at))))
            (λ l. none_in e l) (in_cases d [] e k))
            (Contains-append_cases m.finished (d ∷ []) e h);
        new_owed = follow.new_owed;
      };
      mixes = ap (λ (ds : List marks.Done). mixed ds (changed_marks b m).owed) done
          ∙ mixed_done (changed_marks b m).finished (changed_marks b m).owed d
          (λ e h. let low = low_done v n b m from xs p e h in omega (arith, low, top, at))
          (λ s h. let low = low_owed v n b m from xs p s h in omega (arith, low, top, at));
      top = omega (arith, some);
    }

-- a range that comes behind another begins where that ends, or behind it
ends_before : (ds : List marks.Done) (x d : marks.Done) → InOrder 0 (spans ds) → Contains ds x → Contains ds d
    → x.span.lo < d.span.lo → x.span.hi ≤ d.span.lo
ends_before ds x d order h k less = ⊎_elim
    (λ over. absurd (
    let some = (order_members 0 (spans ds) d.span order (map_in (λ (e : marks.Done). e.span) ds d k)).1 in
    let same = one_holds (λ (e : marks.Done). e.span) d.span.lo 0 ds x d order h k
    (inside d.span.lo x.span (omega (arith, less)) over) (inside d.span.lo d.span (omega arith) some) in
    let level : x.span.lo ≡ d.span.lo = ap (λ (e : marks.Done). e.span.lo) same in omega (arith, less, level)))
    (λ e. e)
    (cases_lt d.span.lo x.span.hi)

-- a range isn't both done and owed
not_both : (m : Marks) → Tiled m → (d : marks.Done) → Contains m.finished d → Contains m.owed d.span → ⊥
not_both m tiled d h k = starts_apart m tiled d d.span h k refl

grows_commit : (v : Version) (n : ℕ) (b m : Marks) (from : ℕ) (xs : List Range) (d : marks.Done) → Tiled b
    → Put v n b m from xs → from ≤ d.span.lo → Contains m.owed d.span
    → Grows b m (with_done d.pipeline d.span m) (inl d)
grows_commit v n b m from xs d tiled p low owing =
    let follow = p.follow in
    let tm = p.are.tiled in
    let after : Marks = with_done d.pipeline d.span m in
    let ta : Tiled after = tiled_done m d.pipeline d.span tm owing in
    let some : d.span.lo < d.span.hi = (order_members 0 m.owed d.span tm.owed owing).1 in
    let ends : d.span.hi ≤ m.next = owed_below m tm d.span owing in
    let old : Contains b.owed d.span = ⊎_elim (λ k. k)
    (λ k. absurd (let less = p.below (inr d.span) (subst (λ ys. Contains ys (inr d.span)) (sym p.mixes)
    k) in omega (arith, less, low)))
    (owed_or_changed b m d.span tm owing) in
    let here : Contains after.finished d = insert_in d m.finished d (inl refl) in
    let done : (changed_marks b after).finished ≡ (changed_marks b m).finished ++ d ∷ [] =
    same_sorted (λ (e : marks.Done). e.span) 0 0 (changed_marks b after).finished
    ((changed_marks b m).finished ++ d ∷ [])
    (filter_order (is_new b) 0 after.finished ta.finished)
    (subst (InOrder 0) (sym (spans_push (changed_marks b m).finished d))
    (order_append 0 (spans (changed_marks b m).finished) d.span
    (filter_order (is_new b) 0 m.finished tm.finished)
    (λ t h.
    let r = in_map (λ (e : marks.Done). e.span) (changed_marks b m).finished t h in
    let less = low_done v n b m from xs p r.0 r.1 in
    let e = ends_before after.finished r.0 d ta.finished
    (insert_in d m.finished r.0 (inr (in_filter (is_new b) m.finished r.0 r.1).0)) here (omega (arith, less, low)) in
    subst (λ (x : Span). x.hi ≤ d.span.lo) r.2 e)
    (omega arith) some))
    (λ x h.
    let r = in_filter (is_new b) after.finished x h in
    ⊎_elim
    (λ same. Contains-append_right (changed_marks b m).finished (d ∷ []) x (first_in d [] x same))
    (λ k. Contains-append_left (changed_marks b m).finished (d ∷ []) x (filter_in (is_new b) m.finished x k r.1))
    (in_insert d m.finished x r.0))
    (λ x h. ⊎_elim
    (λ k.
    let r = in_filter (is_new b) m.finished x k in
    filter_in (is_new b) after.finished x (insert_in d m.finished x (inr r.0)) r.1)
    (λ k. ⊎_elim
    (λ same. subst (Contains (changed_marks b after).finished) same
    (filter_in (is_new b) after.finished d here
    (new_done b d (λ l. not_both b tiled d l old))))
    (λ l. none_in x l) (in_cases d [] x k))
    (Contains-append_cases (changed_marks b m).finished (d ∷ []) x h)) in
    let owed : (changed_marks b after).owed ≡ (changed_marks b m).owed =
    filter_under (is_new_owed b) (λ o. not (same_span o d.span)) m.owed (λ o e.
    not_from_false (same_span o d.span) (⊎_elim
    (λ same. absurd (true≢false (
    sym (span_any o b.owed (subst (Contains b.owed) (sym (span_is o d.span same)) old))
    ∙ not-true (list_any (same_span o) b.owed) e)))
    (λ apart. apart) (cases_Bool (same_span o d.span)))) in
    record {
      follow = record {
        next = follow.next;
        finished = λ e h. insert_in d m.finished e (inr (follow.finished e h));
        owed = λ o h. ⊎_elim
            (λ k. ⊎_elim
            (λ same. inr (d, here, sym (span_is o d.span same)))
            (λ apart. inl (filter_in (λ (x : Span). not (same_span x d.span)) m.owed o k
            (not_from_false (same_span o d.span) apart)))
            (cases_Bool (same_span o d.span)))
            (λ k. inr (k.0, insert_in d m.finished k.0 (inr k.1), k.2))
            (follow.owed o h);
        new_done = λ e h. ⊎_elim
            (λ same. inr (inl (subst (λ (x : marks.Done). Contains b.owed x.span) same old)))
            (λ k. follow.new_done e k)
            (in_insert d m.finished e h);
        new_owed = λ o h. follow.new_owed o (in_filter (λ (x : Span). not (same_span x d.span)) m.owed o h).0;
      };
      mixes = (λ i. mixed (done i) (owed i))
          ∙ mixed_done (changed_marks b m).finished (changed_marks b m).owed d
          (λ e h. let less = low_done v n b m from xs p e h in omega (arith, less, low))
          (λ s h. let less = low_owed v n b m from xs p s h in omega (arith, less, low));
      top = omega (arith, some, ends);
    }

-- a range that is put makes marks over which it was put
after_are : (v : Version) (n : ℕ) (m after : Marks) (l : RangeLine) → AreMarks v n m → Tiled after
    → ((after.next ≡ m.next) ⊎ (after.next ≡ (span_in (range_of l)).hi))
    → ((e : marks.Done) → Contains after.finished e → Contains m.finished e ⊎ (l ≡ Done e))
    → IsRangeLine v l → ((e : marks.Done) → l ≡ Done e → e.pipeline < n) → AreMarks v n after
after_are v n m after l are tiled next each fits index = record {
  tiled = tiled;
  small = ⊎_elim (λ e. subst (λ k. k < 18446744073709551616) (sym e) are.small)
      (λ e. subst (λ k. k < 18446744073709551616) (sym e) (small_hi v l fits)) next;
  indexed = λ e h. ⊎_elim (λ k. are.indexed e k)
      (λ is. (index e is, (subst (IsRangeLine v) is fits).2)) (each e h);
}

-- where marks have ranges put over them, one more can be put
put_done : (v : Version) (n : ℕ) (b m : Marks) (from : ℕ) (xs : List Range) (d : marks.Done) → Tiled b
    → Put v n b m from xs → IsRangeLine v (Done d) → CanPut from n m (Done d) → (below : Bool)
    → nat_lt d.span.lo m.next ≡ below
    → Put v n b (cond below (with_done d.pipeline d.span m) (with_new_done d.pipeline d.span m)) (d.span.lo + 1)
    (xs ++ inl d ∷ [])
put_done v n b m from xs d tiled p fits can true is =
    let less = ltb-true d.span.lo m.next is in
    let owing : Contains m.owed d.span = ⊎_elim (λ e. any_span d.span m.owed e)
    (λ e. absurd (omega (arith, less, e))) can.3 in
    grown_put v n b m (with_done d.pipeline d.span m) from xs (inl d) p
    (grows_commit v n b m from xs d tiled p can.0 owing) can.0
    (after_are v n m (with_done d.pipeline d.span m) (Done d) p.are
    (tiled_done m d.pipeline d.span p.are.tiled owing) (inl refl)
    (λ e h. ⊎_elim (λ same. inr (ap Done same)) (λ k. inl k) (in_insert d m.finished e h)) fits
    (λ e same. let is : d ≡ e = cc in subst (λ (x : marks.Done). x.pipeline < n) is can.2))
put_done v n b m from xs d tiled p fits can false is =
    let over = ltb-false d.span.lo m.next is in
    let at : d.span.lo ≡ m.next = ⊎_elim
    (λ e. absurd (let ends = owed_below m p.are.tiled d.span (any_span d.span m.owed e) in let some = can.1 in
    omega (arith, ends, some, over)))
    (λ e. e) can.3 in
    let some = can.1 in
    grown_put v n b m (with_new_done d.pipeline d.span m) from xs (inl d) p
    (grows_done v n b m from xs d tiled p at can.1) can.0
    (after_are v n m (with_new_done d.pipeline d.span m) (Done d) p.are
    (new_tiled at) (inr refl)
    (λ e h. ⊎_elim (λ k. inl k)
    (λ k. ⊎_elim (λ same. inr (ap Done same)) (λ l. none_in e l) (in_cases d [] e k))
    (Contains-append_cases m.finished (d ∷ []) e h)) fits
    (λ e same. let is : d ≡ e = cc in subst (λ (x : marks.Done). x.pipeline < n) is can.2))
  where
    new_tiled : d.span.lo ≡ m.next → Tiled (with_new_done d.pipeline d.span m)
    new_tiled at = subst (λ k. Tiled (with_new_done d.pipeline (record { lo = k; hi = d.span.hi }) m)) (sym at)
        (tiled_new_done m d.pipeline d.span.hi p.are.tiled
        (let some = can.1 in omega (arith, some, at)))

pub put_more : (v : Version) (n : ℕ) (b m : Marks) (from : ℕ) (xs : List Range) (l : RangeLine) → Tiled b
    → Put v n b m from xs → IsRangeLine v l → CanPut from n m l
    → Put v n b (with_range_line l m) (begin_of l + 1) (xs ++ range_of l ∷ [])
put_more v n b m from xs (Done d) tiled p fits can =
    put_done v n b m from xs d tiled p fits can (nat_lt d.span.lo m.next) refl
put_more v n b m from xs (Open s) tiled p fits can =
    let top = p.top in
    grown_put v n b m (with_owed s m) from xs (inr s) p (grows_open v n b m from xs s tiled p can.0 can.1)
    (let at = can.0 in omega (arith, top, at))
    (after_are v n m (with_owed s m) (Open s) p.are (tiled_owed m s p.are.tiled can.0 can.1) (inr refl)
    (λ e h. inl h) fits (λ e same. absurd (let never : Open s ≡ Done e = same in cc)))
