-- Lines of ranges that are put over a partition's marks.
use Rattle.std.proofs.Common.{◌≡◌, ◌⊎◌, inl, inr, ⊎_elim, ℕ, ◌+◌, ◌<◌, ◌≤◌, Bool, true, false, nat_lt, List, [], ◌∷◌}
use Rattle.std.proofs.Common.{◌++◌, length, refl, sym, ap, subst, ◌∙◌, Some, None, append_assoc, arith}
use Rattle.std.specs.List.{Contains, flat_map}
use Rattle.std.proofs.lemmas.Bool.{lt-ltb, true≢false}
use Rattle.std.proofs.lemmas.List.Elements.{Contains-append_cases}
use Rattle.std.proofs.lemmas.Option.{same_Some}
use Rattle.gob_ledger.specs.Marks as marks
use Rattle.gob_ledger.specs.Marks.{Marks, Span, Tiled}
use Rattle.gob_ledger.specs.Spelling.{Version}
use Rattle.gob_ledger.specs.Delta.{changed_marks, has_ranges}
use Rattle.gob_ledger.proofs.InLine.{span_in}
use Rattle.gob_ledger.proofs.Members.{none_in, first_in}
use Rattle.gob_ledger.proofs.Merging.{any_span}
use Rattle.gob_ledger.proofs.Ranges.{owed_below}
use Rattle.gob_ledger.proofs.Reading.{gathered}
use Rattle.gob_ledger.proofs.StateLines.{Range, lo_of}
use Rattle.gob_state.proofs.Along.{Along, OneMore, all_read, at_start, one_missing, one_more}
use Rattle.gob_state.proofs.RangeLemmas.{begins_line, line_back, line_of, range_bytes, range_of, range_spelled}
use Rattle.gob_state.proofs.RangeLemmas.{ranges_spelled, spelled_back}
use Rattle.gob_state.proofs.Steps.{no_more}
use Rattle.gob_state.specs.Ranges.{AreMarks, BeginsRange, IsRangeLine, NoRange, range_text, ranges_text}
use Rattle.gob_state.specs.Reads.{ReadsSpelling}
use Rattle.gob_state.specs.declared.ranges.RangeLine.{RangeLine}
use Rattle.gob_state.specs.declared.ranges.RangeLine.TheVariants.{Done, Open}
use Rattle.gob_text.specs.Words.{GoesOnAtAll}
use Rattle.gob_segments.proofs.Put.{Put, changed_ranges, gathered_done, gathered_owed, none_put, parted, put_more}
use Rattle.gob_segments.proofs.PutAll.{all_put, next_fits}
use Rattle.gob_segments.specs.Applied.{CanPut, MarksAfter, begin_of, with_range_line}

-- the ranges of some whole change
abbrev Whole : Version → ℕ → Marks → List Range → Type 0
Whole v n b rs = (k : Marks) × MarksAfter v n b k × (rs ≡ changed_ranges b k)

-- lines at the front of a text were put over marks
pub record SomePut (v : Version) (n : ℕ) (b : Marks) (old rest : List ℕ) (m : Marks) (from : ℕ) : Type 0 where
  pub ranges : List Range
  pub tiled : Tiled b
  pub along : Along (range_bytes v) (λ rs. Unit {0}) (Whole v n b) NoRange old rest ranges
  pub put : Put v n b m from ranges

pub nothing_put : (v : Version) (n : ℕ) (b : Marks) (old : List ℕ) → AreMarks v n b → SomePut v n b old old b 0
nothing_put v n b old are = record {
  ranges = [];
  tiled = are.tiled;
  along = at_start old tt;
  put = none_put v n b are;
}

-- what is to hold of the next range
abbrev FitsNext : Version → ℕ → ℕ → Marks → Range → Type 0
FitsNext v n from m r = IsRangeLine v (line_of r) × CanPut from n m (line_of r)

-- a line that was read, as a range of the ledger's
next_read : (v : Version) (n from : ℕ) (m : Marks) (rest new : List ℕ) (l : RangeLine)
    → ReadsSpelling (range_text v) (IsRangeLine v) GoesOnAtAll rest new (Some l) → CanPut from n m l
    → ReadsSpelling (range_bytes v) (FitsNext v n from m) GoesOnAtAll rest new (Some (range_of l))
next_read v n from m rest new l r can = record {
  spelled = (both l r.spelled.0 can, r.spelled.1 ∙ ap (λ t. t ++ new) (range_spelled v l));
  read = λ q after f g e.
      let one = r.read (line_of q) after f.0 tt (e ∙ ap (λ t. t ++ after) (spelled_back v q)) in
      (ap Some (ap range_of (same_Some l (line_of q) one.0) ∙ line_back q), one.1);
}
  where
    both : (l : RangeLine) → IsRangeLine v l → CanPut from n m l → FitsNext v n from m (range_of l)
    both (Done d) f c = (f, c)
    both (Open s) f c = (f, c)

none_next : (v : Version) (n from : ℕ) (m : Marks) (rest mid any : List ℕ)
    → ReadsSpelling (range_text v) (IsRangeLine v) GoesOnAtAll rest mid None
    → ReadsSpelling (range_bytes v) (FitsNext v n from m) GoesOnAtAll rest any None
none_next v n from m rest mid any r = record {
  spelled = tt;
  read = λ q after f g e. absurd (no_more (line_of q)
      (r.read (line_of q) after f.0 tt (e ∙ ap (λ t. t ++ after) (spelled_back v q))).0);
}

next_refused : (v : Version) (n from : ℕ) (m : Marks) (rest mid any : List ℕ) (l : RangeLine)
    → ReadsSpelling (range_text v) (IsRangeLine v) GoesOnAtAll rest mid (Some l) → (CanPut from n m l → ⊥)
    → ReadsSpelling (range_bytes v) (FitsNext v n from m) GoesOnAtAll rest any None
next_refused v n from m rest mid any l r never = record {
  spelled = tt;
  read = λ q after f g e.
      let one = r.read (line_of q) after f.0 tt (e ∙ ap (λ t. t ++ after) (spelled_back v q)) in
      absurd (never (subst (CanPut from n m) (sym (same_Some l (line_of q) one.0)) f.1));
}

one_more_range : (v : Version) (n : ℕ) (b : Marks) (old rest : List ℕ) (m : Marks) (from : ℕ)
    (some : SomePut v n b old rest m from)
    → BeginsRange rest → OneMore (range_bytes v) (FitsNext v n from m) GoesOnAtAll (Whole v n b) NoRange rest
    some.ranges
one_more_range v n b old rest m from some begins = record {
  more = λ after w g e. ⊎_elim
      (λ h. g.no_done h.0 (sym e ∙ h.1))
      (λ h. g.no_open h.0 (sym e ∙ h.1)) begins;
  fits = λ z zs w. next_fits v n b m w.0 from some.ranges z zs some.tiled some.put w.1 w.2;
  goes = λ z zs after w g. tt;
}

pub next_put : (v : Version) (n : ℕ) (b : Marks) (old rest new : List ℕ) (m after : Marks) (from behind : ℕ)
    (l : RangeLine) → SomePut v n b old rest m from → BeginsRange rest
    → ReadsSpelling (range_text v) (IsRangeLine v) GoesOnAtAll rest new (Some l) → CanPut from n m l → after
    ≡ with_range_line l m
    → behind ≡ begin_of l + 1 → SomePut v n b old new after behind
next_put v n b old rest new m after from behind l some begins r can is at =
    subst (λ x. SomePut v n b old new x behind) (sym is)
    (subst (SomePut v n b old new (with_range_line l m)) (sym at) (record {
      ranges = some.ranges ++ range_of l ∷ [];
      tiled = some.tiled;
      along = one_more old rest new some.ranges (range_of l) some.along
          (one_more_range v n b old rest m from some begins) (next_read v n from m rest new l r can) tt;
      put = put_more v n b m from some.ranges l some.tiled some.put r.spelled.0 can;
    }))

-- a line can be put alone below the end of a number
pub begins_low : (v : Version) (n from : ℕ) (m : Marks) (l : RangeLine) → IsRangeLine v l → CanPut from n m l
    → begin_of l < 18446744073709551615
begins_low v n from m (Done d) fits can = let some = can.1 in let small = fits.1 in omega (arith, some, small)
begins_low v n from m (Open s) fits can = let some = can.1 in let small = fits.1 in omega (arith, some, small)

-- ---- what was read in the end

abbrev Spelled : Version → Marks → Marks → List ℕ
Spelled v b m = ranges_text v (changed_marks b m)

none_read : (v : Version) (n : ℕ) (b : Marks) (old new : List ℕ)
    → ReadsSpelling (λ rs. flat_map (range_bytes v) rs) (Whole v n b) NoRange old new None
    → ReadsSpelling (Spelled v b) (MarksAfter v n b) NoRange old new None
none_read v n b old new r = record {
  spelled = tt;
  read = λ k after f g e. absurd (no_more (changed_ranges b k)
      (r.read (changed_ranges b k) after (k, f, refl) g
      (e ∙ ap (λ t. t ++ after) (ranges_spelled v (changed_marks b k)))).0);
}

pub put_malformed : (v : Version) (n : ℕ) (b : Marks) (old rest mid new : List ℕ) (m : Marks) (from : ℕ)
    → SomePut v n b old rest m from → BeginsRange rest → ReadsSpelling (range_text v)
    (IsRangeLine v) GoesOnAtAll rest mid None
    → ReadsSpelling (Spelled v b) (MarksAfter v n b) NoRange old new None
put_malformed v n b old rest mid new m from some begins r = none_read v n b old new
    (one_missing old rest new new some.ranges None None some.along (one_more_range v n b old rest m from some begins)
    (none_next v n from m rest mid new r) refl refl)

pub put_refused : (v : Version) (n : ℕ) (b : Marks) (old rest mid new : List ℕ) (m : Marks) (from : ℕ) (l : RangeLine)
    → SomePut v n b old rest m from → BeginsRange rest
    → ReadsSpelling (range_text v) (IsRangeLine v) GoesOnAtAll rest mid (Some l) → (CanPut from n m l → ⊥)
    → ReadsSpelling (Spelled v b) (MarksAfter v n b) NoRange old new None
put_refused v n b old rest mid new m from l some begins r never = none_read v n b old new
    (one_missing old rest new new some.ranges None None some.along (one_more_range v n b old rest m from some begins)
    (next_refused v n from m rest mid new l r never) refl refl)

-- where ranges have changed there are some
pub ranges_some : (c : Marks) → has_ranges ([], c) ≡ true → (c.finished ≡ []) → (c.owed ≡ []) → ⊥
ranges_some c some done owed =
    true≢false (sym some ∙ (λ i. nat_lt 0 (length (done i) + length (owed i))))

none_changed : (b k : Marks) → Tiled k → changed_ranges b k ≡ [] → has_ranges ([], changed_marks b k) ≡ true → ⊥
none_changed b k tiled none some =
    let both = sym (parted b k tiled) ∙ ap gathered none in
    ranges_some (changed_marks b k) some (ap (λ (x : Marks). x.finished) both) (ap (λ (x : Marks). x.owed) both)

some_changed : (b m : Marks) (r : Range) → Tiled m → Contains (changed_ranges b m) r
    → has_ranges ([], changed_marks b m) ≡ true
some_changed b m (inl d) tiled h =
    let k = subst (λ (x : Marks). Contains x.finished d) (parted b m tiled) (gathered_done (changed_ranges b m) d h) in
    let low = k.1 in
    lt-ltb 0 (length (changed_marks b m).finished + length (changed_marks b m).owed) (omega (arith, low))
some_changed b m (inr s) tiled h =
    let k = subst (λ (x : Marks). Contains x.owed s) (parted b m tiled) (gathered_owed (changed_ranges b m) s h) in
    let low = k.1 in
    lt-ltb 0 (length (changed_marks b m).finished + length (changed_marks b m).owed) (omega (arith, low))

no_ranges : (v : Version) (n : ℕ) (b m : Marks) (xs : List Range) → Put v n b m 0 xs → xs ≡ []
no_ranges v n b m [] p = refl
no_ranges v n b m (r ∷ xs) p = absurd (let less = p.below r (first_in r xs r refl) in omega (arith, less))

-- no line of a range stands at the front, and none stood before: no change is read
pub none_put_read : (v : Version) (n : ℕ) (b : Marks) (old rest new : List ℕ) (m : Marks) (from : ℕ)
    → SomePut v n b old rest m from → NoRange rest → from ≡ 0
    → ReadsSpelling (Spelled v b) (MarksAfter v n b) NoRange old new None
none_put_read v n b old rest new m from some none start = record {
  spelled = tt;
  read = λ k after f g e.
      let p = some.along.only (changed_ranges b k) after (k, f, refl) g
      (e ∙ ap (λ t. t ++ after) (ranges_spelled v (changed_marks b k))) in
      let empty = no_ranges v n b m some.ranges (subst (λ x. Put v n b m x some.ranges) start some.put) in
      absurd (stops k f p.0 after (p.1 ∙ ap (λ (xs : List Range). xs ++ p.0) empty) p.2);
}
  where
    stops : (k : Marks) → MarksAfter v n b k → (zs : List Range) (after : List ℕ) → changed_ranges b k ≡ zs
        → rest ≡ flat_map (range_bytes v) zs ++ after → ⊥
    stops k f [] after is e = none_changed b k f.are.tiled is f.some
    stops k f (z ∷ zs) after is e = begins_line v z (flat_map (range_bytes v) zs ++ after) rest
        (e ∙ append_assoc (range_bytes v z) (flat_map (range_bytes v) zs) after) none

-- where no further range stands, and some stood before, they make the marks
pub put_read : (v : Version) (n : ℕ) (b : Marks) (old rest new : List ℕ) (m : Marks) (from : ℕ)
    → SomePut v n b old rest m from → NoRange rest → (from ≡ 0 → ⊥) → new ≡ rest
    → ReadsSpelling (Spelled v b) (MarksAfter v n b) NoRange old new (Some m)
put_read v n b old rest new m from some none begun is =
    subst (λ x. ReadsSpelling (Spelled v b) (MarksAfter v n b) NoRange old x (Some m)) (sym is) (record {
      spelled = (
        after_all,
        all.spelled.1 ∙ ap (λ t. t ++ rest) (ap (flat_map (range_bytes v)) some.put.mixes
            ∙ sym (ranges_spelled v (changed_marks b m))),
      );
      read = λ k after f g e.
          let one = all.read (changed_ranges b k) after (k, f, refl) g
          (e ∙ ap (λ t. t ++ after) (ranges_spelled v (changed_marks b k))) in (
            ap Some (all_put v n b m k from some.ranges some.tiled some.put f
                (same_Some some.ranges (changed_ranges b k) one.0)),
            one.1,
          );
    })
  where
    has_some : (from ≡ 0) ⊎ ((r : Range) × Contains some.ranges r × (from ≡ lo_of r + 1))
        → has_ranges ([], changed_marks b m) ≡ true
    has_some (inl e) = absurd (begun e)
    has_some (inr r) = some_changed b m r.0 some.put.are.tiled (subst (λ ys. Contains ys r.0) some.put.mixes r.1)

    after_all : MarksAfter v n b m
    after_all = record { are = some.put.are; follow = some.put.follow; some = has_some some.put.from_is }

    all : ReadsSpelling (λ rs. flat_map (range_bytes v) rs) (Whole v n b) NoRange old rest (Some some.ranges)
    all = all_read old rest some.ranges some.along (m, after_all, some.put.mixes)
        (λ z zs after w g e. begins_line v z (flat_map (range_bytes v) zs ++ after) rest e none)

-- a done range behind the end of marks can't be put
pub cannot_put : (from n lo next end : ℕ) (m : Marks) (d : marks.Done) → Tiled m → next ≡ m.next → end ≡ m.next
    → lo ≡ d.span.lo → next ≤ lo → (lo ≡ end → ⊥) → CanPut from n m (Done d) → ⊥
cannot_put from n lo next end m d tiled is also at over apart can = ⊎_elim
    (λ e.
    let ends = owed_below m tiled d.span (any_span d.span m.owed e) in
    let some = can.1 in
    omega (arith, ends, some, is, at, over))
    (λ e. apart (at ∙ e ∙ sym also))
    can.3
