-- Where the marks after a whole change are known, each of its ranges can be put, and no others make them.
use Rattle.std.proofs.Common.{◌≡◌, ◌⊎◌, inl, inr, ⊎_elim, ℕ, ◌+◌, ◌<◌, ◌≤◌, Bool, true, false, cond, nat_lt, List, []}
use Rattle.std.proofs.Common.{◌∷◌, ◌++◌, map, refl, sym, ap, subst, ◌∙◌, arith}
use Rattle.std.specs.List.{Contains, list_any}
use Rattle.std.proofs.lemmas.Bool.{cases_Bool, cases_lt, le-ltb, lt-ltb}
use Rattle.std.proofs.lemmas.List.Elements.{Contains-append_cases, Contains-append_left, Contains-append_right}
use Rattle.gob_ledger.specs.Marks as marks
use Rattle.gob_ledger.specs.Marks.{Marks, Span, InOrder, Tiled, done_spans, has, times_covered}
use Rattle.gob_ledger.specs.Spelling.{Version}
use Rattle.gob_ledger.specs.Units.{same_span}
use Rattle.gob_ledger.specs.Delta.{MarksFollow, changed_marks}
use Rattle.gob_ledger.proofs.Members.{none_in, first_in, later_in, in_cases, in_map, map_in}
use Rattle.gob_ledger.proofs.Merging.{merged, merged_is, span_any, map_same}
use Rattle.gob_ledger.proofs.Ranges.{covered-is, done_below, inside, one_in, order_members, owed_below, owed_free}
use Rattle.gob_ledger.proofs.Ranges.{times, times_some, within}
use Rattle.gob_ledger.proofs.Reading.{gathered}
use Rattle.gob_ledger.proofs.StateLines.{Range, lo_of, rises_from}
use Rattle.gob_ledger.proofs.Cutting.{times_gives}
use Rattle.gob_state.proofs.RangeLemmas.{line_of}
use Rattle.gob_state.specs.Ranges.{AreMarks, IndexIs, IsRangeLine}
use Rattle.gob_segments.proofs.Changed.{one_holds}
use Rattle.gob_segments.proofs.Put.{Between, Put, between, changed_done, changed_owed, changed_ranges, done_low}
use Rattle.gob_segments.proofs.Put.{old_or_changed, owed_low, owed_or_changed, parted, ranges_rise}
use Rattle.gob_segments.specs.Applied.{CanPut, MarksAfter}

-- ---- which range covers an offset

abbrev CoversDone : ℕ → Marks → Type 0
CoversDone at m = (d : marks.Done) × Contains m.finished d × (has at d.span ≡ true)

abbrev CoversOwed : ℕ → Marks → Type 0
CoversOwed at m = (s : Span) × Contains m.owed s × (has at s ≡ true)

covering : (at : ℕ) (m : Marks) → Tiled m → at < m.next → CoversDone at m ⊎ CoversOwed at m
covering at m tiled below =
    let once : times at (done_spans m) + times at m.owed ≡ 1 =
    sym (covered-is at m) ∙ tiled.once at ∙ ap (λ b. cond b 1 0) (lt-ltb at m.next below) in
    ⊎_elim
    (λ some.
    let r = times_gives at (done_spans m) (omega (arith, some)) in
    let d = in_map (λ (e : marks.Done). e.span) m.finished r.0 r.1 in
    inl (d.0, d.1, subst (λ s. has at s ≡ true) (sym d.2) r.2))
    (λ none. inr (times_gives at m.owed (omega (arith, once, none))))
    (cases_lt 0 (times at (done_spans m)))

-- an offset isn't in a done range and in an owed one
clash : (at : ℕ) (m : Marks) (d : marks.Done) (s : Span) → Tiled m → Contains m.finished d → Contains m.owed s
    → has at d.span ≡ true → has at s ≡ true → ⊥
clash at m d s tiled h k p q =
    let none = owed_free m tiled s k at q in
    let some = times_some at (done_spans m) d.span (map_in (λ (e : marks.Done). e.span) m.finished d h) p in
    omega (arith, none, some)

same_done_at : (at : ℕ) (m : Marks) (d e : marks.Done) → Tiled m → Contains m.finished d → Contains m.finished e
    → has at d.span ≡ true → has at e.span ≡ true → d ≡ e
same_done_at at m d e tiled h k p q = one_holds (λ (x : marks.Done). x.span) at 0 m.finished d e tiled.finished h k p q

same_owed_at : (at : ℕ) (m : Marks) (s t : Span) → Tiled m → Contains m.owed s → Contains m.owed t
    → has at s ≡ true → has at t ≡ true → s ≡ t
same_owed_at at m s t tiled h k p q =
    one_holds (λ (x : Span). x) at 0 m.owed s t (subst (InOrder 0) (sym (map_same m.owed)) tiled.owed) h k p q

-- ---- one range more of a change that is known

-- of the changed ranges some were put, and one comes next
record Next (v : Version) (n : ℕ) (b m k : Marks) (from : ℕ) (xs : List Range) (z : Range)
    (zs : List Range) : Type 0 where
  tiled : Tiled b
  put : Put v n b m from xs
  after : MarksAfter v n b k
  whole : xs ++ z ∷ zs ≡ changed_ranges b k

known : (v : Version) (n : ℕ) (b m k : Marks) (from : ℕ) (xs : List Range) (z : Range) (zs : List Range)
    → Next v n b m k from xs z zs → (r : Range) → Contains (xs ++ z ∷ zs) r → Contains (changed_ranges b k) r
known v n b m k from xs z zs x r h = subst (λ ys. Contains ys r) x.whole h

-- the changed ranges of the marks so far
is_put : (v : Version) (n : ℕ) (b m k : Marks) (from : ℕ) (xs : List Range) (z : Range) (zs : List Range)
    → Next v n b m k from xs z zs → (r : Range) → Contains (changed_ranges b m) r → Contains xs r
is_put v n b m k from xs z zs x r h = subst (λ ys. Contains ys r) (sym x.put.mixes) h

parts_known : (v : Version) (n : ℕ) (b m k : Marks) (from : ℕ) (xs : List Range) (z : Range) (zs : List Range)
    → Next v n b m k from xs z zs → Between xs z zs
parts_known v n b m k from xs z zs x =
    between 0 xs z zs (subst (λ ys. rises_from 0 ys ≡ true) (sym x.whole) (ranges_rise b k x.after.are.tiled))

-- what is done so far stays done
done_stays : (v : Version) (n : ℕ) (b m k : Marks) (from : ℕ) (xs : List Range) (z : Range) (zs : List Range)
    → Next v n b m k from xs z zs → (d : marks.Done) → Contains m.finished d → Contains k.finished d
done_stays v n b m k from xs z zs x d h = ⊎_elim
    (λ l. x.after.follow.finished d l)
    (λ l. (changed_done b k d x.after.are.tiled
    (known v n b m k from xs z zs x (inl d)
    (Contains-append_left xs (z ∷ zs) (inl d) (is_put v n b m k from xs z zs x (inl d) l)))).0)
    (old_or_changed b m d x.put.are.tiled h)

-- a range that is owed so far was owed before, or is owed in the end
owed_stays : (v : Version) (n : ℕ) (b m k : Marks) (from : ℕ) (xs : List Range) (z : Range) (zs : List Range)
    → Next v n b m k from xs z zs → (s : Span) → Contains m.owed s
    → Contains b.owed s ⊎ (Contains xs (inr s) × Contains k.owed s)
owed_stays v n b m k from xs z zs x s h = ⊎_elim
    (λ l. inl l)
    (λ l.
    let put = is_put v n b m k from xs z zs x (inr s) l in
    inr (
      put,
      (changed_owed b k s x.after.are.tiled
          (known v n b m k from xs z zs x (inr s) (Contains-append_left xs (z ∷ zs) (inr s) put))).0,
    ))
    (owed_or_changed b m s x.put.are.tiled h)

next_in : (v : Version) (n : ℕ) (b m k : Marks) (from : ℕ) (xs : List Range) (z : Range) (zs : List Range)
    → Next v n b m k from xs z zs → Contains (changed_ranges b k) z
next_in v n b m k from xs z zs x =
    known v n b m k from xs z zs x z (Contains-append_right xs (z ∷ zs) z (first_in z zs z refl))

-- the next range begins at `from` or behind it
next_low : (v : Version) (n : ℕ) (b m k : Marks) (from : ℕ) (xs : List Range) (z : Range) (zs : List Range)
    → Next v n b m k from xs z zs → from ≤ lo_of z
next_low v n b m k from xs z zs x = ⊎_elim
    (λ e. omega (arith, e))
    (λ r. let less = (parts_known v n b m k from xs z zs x).before r.0 r.1 in let is = r.2 in omega (arith, less, is))
    x.put.from_is

-- a range of the end that covers where those so far end doesn't begin before the next
covers_next : (v : Version) (n : ℕ) (b m k : Marks) (from : ℕ) (xs : List Range) (z : Range) (zs : List Range)
    → Next v n b m k from xs z zs → (r : Range) → Contains (xs ++ z ∷ zs) r → (Contains xs r → ⊥) → lo_of z ≤ lo_of r
covers_next v n b m k from xs z zs x r h out = ⊎_elim
    (λ l. absurd (out l))
    (λ l. ⊎_elim
    (λ same. let level : lo_of z ≡ lo_of r = ap lo_of same in omega (arith, level))
    (λ q. let less = (parts_known v n b m k from xs z zs x).behind r q in omega (arith, less))
    (in_cases z zs r l))
    (Contains-append_cases xs (z ∷ zs) r h)

-- the next range begins where those so far end, where it doesn't begin before
next_begins : (v : Version) (n : ℕ) (b m k : Marks) (from : ℕ) (xs : List Range) (z : Range) (zs : List Range)
    → Next v n b m k from xs z zs → m.next ≤ lo_of z → lo_of z < k.next → lo_of z ≡ m.next
next_begins v n b m k from xs z zs x over below = ⊎_elim done owed
    (covering m.next k x.after.are.tiled (omega (arith, over, below)))
  where
    in_all : (r : Range) → Contains (changed_ranges b k) r → Contains (xs ++ z ∷ zs) r
    in_all r h = subst (λ ys. Contains ys r) (sym x.whole) h

    done : CoversDone m.next k → lo_of z ≡ m.next
    done (d, h, covers) =
        let w = within m.next d.span covers in
        let out : Contains xs (inl d) → ⊥ = λ l.
        let c = changed_done b m d x.put.are.tiled (subst (λ ys. Contains ys (inl d)) x.put.mixes l) in
        let ends = (done_below m x.put.are.tiled d.span (map_in (λ (e : marks.Done). e.span) m.finished d c.0)).1 in
        omega (arith, ends, w.1) in
        ⊎_elim
        (λ l. absurd (let ends = (done_low b m x.tiled x.put.follow d l).1 in omega (arith, ends, w.1)))
        (λ l. let low = covers_next v n b m k from xs z zs x (inl d) (in_all (inl d) l) out in
        omega (arith, low, w.0, over))
        (old_or_changed b k d x.after.are.tiled h)

    owed : CoversOwed m.next k → lo_of z ≡ m.next
    owed (s, h, covers) =
        let w = within m.next s covers in
        let out : Contains xs (inr s) → ⊥ = λ l.
        let c = changed_owed b m s x.put.are.tiled (subst (λ ys. Contains ys (inr s)) x.put.mixes l) in
        let ends = owed_below m x.put.are.tiled s c.0 in
        omega (arith, ends, w.1) in
        ⊎_elim
        (λ l. absurd (let ends = (owed_low b m x.tiled x.put.follow s l).1 in omega (arith, ends, w.1)))
        (λ l. let low = covers_next v n b m k from xs z zs x (inr s) (in_all (inr s) l) out in
        omega (arith, low, w.0, over))
        (owed_or_changed b k s x.after.are.tiled h)

-- a done range that comes next is owed, or begins where the others end
owed_or_next : (v : Version) (n : ℕ) (b m k : Marks) (from : ℕ) (xs : List Range) (d : marks.Done) (zs : List Range)
    → Next v n b m k from xs (inl d) zs → (list_any (same_span d.span) m.owed ≡ true) ⊎ (d.span.lo ≡ m.next)
owed_or_next v n b m k from xs d zs x = ⊎_elim
    (λ less. inl (span_any d.span m.owed (⊎_elim done owed (covering d.span.lo m x.put.are.tiled less))))
    (λ over. inr (next_begins v n b m k from xs (inl d) zs x over
    (let a = ends.0 in let e = ends.1 in omega (arith, a, e))))
    (cases_lt d.span.lo m.next)
  where
    here : Contains k.finished d × (Contains b.finished d → ⊥)
    here = changed_done b k d x.after.are.tiled (next_in v n b m k from xs (inl d) zs x)

    ends : (d.span.lo < d.span.hi) × (d.span.hi ≤ k.next)
    ends = done_below k x.after.are.tiled d.span (map_in (λ (e : marks.Done). e.span) k.finished d here.0)

    begins : has d.span.lo d.span ≡ true
    begins = inside d.span.lo d.span (omega arith) ends.0

    done : CoversDone d.span.lo m → Contains m.owed d.span
    done (e, h, covers) =
        let same : e ≡ d = same_done_at d.span.lo k e d x.after.are.tiled
        (done_stays v n b m k from xs (inl d) zs x e h) here.0 covers begins in
        absurd (⊎_elim
        (λ l. here.1 l)
        (λ l. let less = (parts_known v n b m k from xs (inl d) zs x).before (inl d)
        (is_put v n b m k from xs (inl d) zs x (inl d) l) in omega (arith, less))
        (old_or_changed b m d x.put.are.tiled (subst (Contains m.finished) same h)))

    owed : CoversOwed d.span.lo m → Contains m.owed d.span
    owed (s, h, covers) = ⊎_elim
        (λ l. ⊎_elim
        (λ q. absurd (clash d.span.lo k d s x.after.are.tiled here.0 q begins covers))
        (λ q.
        let same : q.0 ≡ d = same_done_at d.span.lo k q.0 d x.after.are.tiled q.1 here.0
        (subst (λ t. has d.span.lo t ≡ true) (sym q.2) covers) begins in
        subst (Contains m.owed) (sym q.2 ∙ ap (λ (e : marks.Done). e.span) same) h)
        (x.after.follow.owed s l))
        (λ l. absurd (clash d.span.lo k d s x.after.are.tiled here.0 l.1 begins covers))
        (owed_stays v n b m k from xs (inl d) zs x s h)

-- an open range that comes next begins where the others end
open_next : (v : Version) (n : ℕ) (b m k : Marks) (from : ℕ) (xs : List Range) (s : Span) (zs : List Range)
    → Next v n b m k from xs (inr s) zs → s.lo ≡ m.next
open_next v n b m k from xs s zs x = ⊎_elim
    (λ less. absurd (⊎_elim done owed (covering s.lo m x.put.are.tiled less)))
    (λ over. next_begins v n b m k from xs (inr s) zs x over
    (let e = owed_below k x.after.are.tiled s here.0 in let a = some in omega (arith, a, e)))
    (cases_lt s.lo m.next)
  where
    here : Contains k.owed s × (Contains b.owed s → ⊥)
    here = changed_owed b k s x.after.are.tiled (next_in v n b m k from xs (inr s) zs x)

    some : s.lo < s.hi
    some = (order_members 0 k.owed s x.after.are.tiled.owed here.0).1

    begins : has s.lo s ≡ true
    begins = inside s.lo s (omega arith) some

    done : CoversDone s.lo m → ⊥
    done (d, h, covers) = clash s.lo k d s x.after.are.tiled (done_stays v n b m k from xs (inr s) zs x d h) here.0
        covers begins

    owed : CoversOwed s.lo m → ⊥
    owed (o, h, covers) = ⊎_elim
        (λ l. ⊎_elim
        (λ q. here.1 q)
        (λ over.
        let ends = owed_below b x.tiled o l in let w = within s.lo o covers in omega (arith, ends, w.1, over))
        (x.after.follow.new_owed s here.0))
        (λ l.
        let same : o ≡ s = same_owed_at s.lo k o s x.after.are.tiled l.1 here.0 covers begins in
        let less = (parts_known v n b m k from xs (inr s) zs x).before (inr s)
        (subst (λ (t : Span). Contains xs (inr t)) same l.0) in omega (arith, less))
        (owed_stays v n b m k from xs (inr s) zs x o h)

pub next_fits : (v : Version) (n : ℕ) (b m k : Marks) (from : ℕ) (xs : List Range) (z : Range) (zs : List Range)
    → Tiled b → Put v n b m from xs → MarksAfter v n b k → xs ++ z ∷ zs ≡ changed_ranges b k
    → IsRangeLine v (line_of z) × CanPut from n m (line_of z)
next_fits v n b m k from xs (inl d) zs tiled put after whole =
    let x : Next v n b m k from xs (inl d) zs = record { tiled = tiled; put = put; after = after; whole = whole } in
    let here = changed_done b k d after.are.tiled (next_in v n b m k from xs (inl d) zs x) in
    let ends = done_below k after.are.tiled d.span (map_in (λ (e : marks.Done). e.span) k.finished d here.0) in
    let index = after.are.indexed d here.0 in
    let small = after.are.small in (
      (omega (arith, ends.0, ends.1, small), omega (arith, ends.1, small), index.1),
      (
        next_low v n b m k from xs (inl d) zs x,
        ends.0,
        index.0,
        owed_or_next v n b m k from xs d zs x,
      ),
    )
next_fits v n b m k from xs (inr s) zs tiled put after whole =
    let x : Next v n b m k from xs (inr s) zs = record { tiled = tiled; put = put; after = after; whole = whole } in
    let here = changed_owed b k s after.are.tiled (next_in v n b m k from xs (inr s) zs x) in
    let some = (order_members 0 k.owed s after.are.tiled.owed here.0).1 in
    let ends = owed_below k after.are.tiled s here.0 in
    let small = after.are.small in (
      (omega (arith, some, ends, small), omega (arith, ends, small)),
      (open_next v n b m k from xs s zs x, some),
    )

-- ---- no other marks have these changes

ends_same : (m k : Marks) → Tiled m → Tiled k → m.finished ≡ k.finished → m.owed ≡ k.owed → m.next < k.next → ⊥
ends_same m k tm tk done owed less =
    let full : times_covered m.next k ≡ 1 = tk.once m.next ∙ ap (λ b. cond b 1 0) (lt-ltb m.next k.next less) in
    let none : times_covered m.next m ≡ 0 =
    tm.once m.next ∙ ap (λ b. cond b 1 0) (le-ltb m.next m.next (omega arith)) in
    let same : times_covered m.next m ≡ times_covered m.next k =
    λ i. times_covered m.next (record { next = 0; finished = done i; owed = owed i }) in
    omega (arith, full, none, same)

pub all_put : (v : Version) (n : ℕ) (b m k : Marks) (from : ℕ) (xs : List Range) → Tiled b → Put v n b m from xs
    → MarksAfter v n b k → xs ≡ changed_ranges b k → m ≡ k
all_put v n b m k from xs tiled put after whole =
    let both = sym (parted b m put.are.tiled) ∙ ap gathered (sym put.mixes ∙ whole) ∙ parted b k after.are.tiled in
    let one = merged_is b m tiled put.are.tiled put.follow in
    let two = merged_is b k tiled after.are.tiled after.follow in
    let done : m.finished ≡ k.finished =
    sym (ap (λ (x : Marks). x.finished) one) ∙ ap (λ (x : Marks). (merged b x).finished) both
    ∙ ap (λ (x : Marks). x.finished) two in
    let owed : m.owed ≡ k.owed =
    sym (ap (λ (x : Marks). x.owed) one) ∙ ap (λ (x : Marks). (merged b x).owed) both
    ∙ ap (λ (x : Marks). x.owed) two in
    let next : m.next ≡ k.next = ⊎_elim
    (λ less. absurd (ends_same m k put.are.tiled after.are.tiled done owed less))
    (λ over. ⊎_elim
    (λ less. absurd (ends_same k m after.are.tiled put.are.tiled (sym done) (sym owed) less))
    (λ above. omega (arith, over, above)) (cases_lt k.next m.next))
    (cases_lt m.next k.next) in
    λ i. record { next = next i; finished = done i; owed = owed i }
