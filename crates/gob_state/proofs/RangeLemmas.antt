-- Lines of ranges: which marks they make.
use Rattle.std.proofs.Common.{◌≡◌, inl, inr, ⊎_elim, ℕ, ◌+◌, ◌<◌, ◌≤◌, cond}
use Rattle.std.proofs.Common.{List, [], ◌∷◌, ◌++◌, map, refl, sym, ap, subst, ◌∙◌, Some, None}
use Rattle.std.proofs.Common.{append-nil, arith, codes}
use Rattle.std.specs.List.{AllByRecursion, Contains, flat_map}
use Rattle.std.proofs.lemmas.Bool.{lt-ltb, le-ltb}
use Rattle.std.proofs.lemmas.List.{append_cancel_left}
use Rattle.std.proofs.lemmas.Option.{same_Some}
use Rattle.gob_bytes.specs.Words.{words}
use Rattle.gob_bytes.specs.Escapes.{escape_of}
use Rattle.std.specs.Fmt.{decimal}
use Rattle.gob_ledger.specs.Marks as marks
use Rattle.gob_ledger.specs.Marks.{Marks, Span, Tiled, done_spans}
use Rattle.gob_ledger.specs.Spelling.{Version, version_1, version_2, Small}
use Rattle.gob_ledger.proofs.InLine.{InLine, span_in, line_tiles, tiled_in_line}
use Rattle.gob_ledger.proofs.Members.{in_cases, none_in}
use Rattle.gob_ledger.proofs.Reading.{gathered, gathered_mixed}
use Rattle.gob_ledger.proofs.StateLines.{Range, range_words, put_range, mixed, mixed_each, from_members}
use Rattle.gob_ledger.proofs.StateLines.{parts_text_is}
use Rattle.gob_ledger.proofs.WordLines.{line_bytes, lines_text}
use Rattle.gob_text.specs.Words.{GoesOnAtAll}
use Rattle.gob_state.specs.Reads.{ReadsSpelling, spaced_pair, spaced_triple, SmallPair, SmallTriple}
use Rattle.gob_state.specs.Ranges.{done_numbers, IndexIs, IsDoneLine, open_range_text, IsOpenLine, range_text}
use Rattle.gob_state.specs.Ranges.{IsRangeLine}
use Rattle.gob_state.specs.Ranges.{NoRange, BeginsRange, RangeGoesOn, grown_marks, ranges_text, AreMarks}
use Rattle.gob_state.specs.declared.ranges.RangeLine.{RangeLine}
use Rattle.gob_state.specs.declared.ranges.RangeLine.TheVariants.{Done, Open}
use Rattle.gob_state.proofs.Steps.{Renaming, no_more}
use Rattle.gob_state.proofs.Along.{Along, OneMore, one_more, one_missing, all_read}
use Rattle.gob_state.proofs.SettingLemmas.{each_first}

-- ---- a line as a range of the ledger's

abbrev pub range_of : RangeLine → Range
range_of (Done d) = inl d
range_of (Open s) = inr s

abbrev pub line_of : Range → RangeLine
line_of (inl d) = Done d
line_of (inr s) = Open s

abbrev pub range_bytes : Version → Range → List ℕ
range_bytes v r = line_bytes (range_words v r)

pub range_spelled : (v : Version) (l : RangeLine) → range_text v l ≡ range_bytes v (range_of l)
range_spelled version_1 (Done d) = refl
range_spelled version_2 (Done d) = refl
range_spelled v (Open s) = refl

pub spelled_back : (v : Version) (r : Range) → range_bytes v r ≡ range_text v (line_of r)
spelled_back v (inl d) = sym (range_spelled v (Done d))
spelled_back v (inr s) = sym (range_spelled v (Open s))

pub line_back : (r : Range) → range_of (line_of r) ≡ r
line_back (inl d) = refl
line_back (inr s) = refl

abbrev pub open_renaming : Renaming spaced_pair SmallPair open_range_text IsOpenLine
open_renaming = record {
  to = λ p. record { lo = p.0; hi = p.1 };
  from = λ s. (s.lo, s.hi);
  back = λ s f. refl;
  spells = λ p. refl;
  fits = λ p f. f;
  parts = λ s f. f;
}

abbrev pub first_renaming : Renaming spaced_pair SmallPair (done_numbers version_1) (IsDoneLine version_1)
first_renaming = record {
  to = λ p. record { span = record { lo = p.0; hi = p.1 }; pipeline = 0 };
  from = λ d. (d.span.lo, d.span.hi);
  back = λ d f i. record { span = d.span; pipeline = sym f.2 i };
  spells = λ p. refl;
  fits = λ p f. (f.0, f.1, refl);
  parts = λ d f. (f.0, f.1);
}

abbrev pub second_renaming : Renaming spaced_triple SmallTriple (done_numbers version_2) (IsDoneLine version_2)
second_renaming = record {
  to = λ t. record { span = record { lo = t.0; hi = t.1 }; pipeline = t.2 };
  from = λ d. (d.span.lo, d.span.hi, d.pipeline);
  back = λ d f. refl;
  spells = λ t. refl;
  fits = λ t f. (f.0, f.1.0, f.1.1);
  parts = λ d f. (f.0, (f.1, f.2));
}

-- what is to hold of the next range behind marks that end here
abbrev pub FitsNext : Version → ℕ → ℕ → Range → Type 0
FitsNext v n next (inl d) = IsDoneLine v d × (d.span.lo ≡ next) × (d.span.lo < d.span.hi) × (d.pipeline < n)
FitsNext v n next (inr s) = IsOpenLine s × (s.lo ≡ next) × (s.lo < s.hi)

pub fits_line : (v : Version) (n next : ℕ) (r : Range) → FitsNext v n next r → IsRangeLine v (line_of r)
fits_line v n next (inl d) f = f.0
fits_line v n next (inr s) f = f.0

fits_goes_on : (v : Version) (n : ℕ) (m : Marks) (r : Range) → FitsNext v n m.next r → RangeGoesOn n m (line_of r)
fits_goes_on v n m (inl d) f = (f.1, f.2, f.3)
fits_goes_on v n m (inr s) f = (f.1, f.2)

pub both_fit : (v : Version) (n : ℕ) (m : Marks) (l : RangeLine) → IsRangeLine v l → RangeGoesOn n m l
    → FitsNext v n m.next
    (range_of l)
both_fit v n m (Done d) f g = (f, g.0, g.1, g.2)
both_fit v n m (Open s) f g = (f, g.0, g.1)

-- a line that was read, as a range that goes on
next_read : (v : Version) (n : ℕ) (m : Marks) (rest new : List ℕ) (l : RangeLine)
    → ReadsSpelling (range_text v) (IsRangeLine v) GoesOnAtAll rest new (Some l) → RangeGoesOn n m l
    → ReadsSpelling (range_bytes v) (FitsNext v n m.next) GoesOnAtAll rest new (Some (range_of l))
next_read v n m rest new l r goes = record {
  spelled = (both_fit v n m l r.spelled.0 goes, r.spelled.1 ∙ ap (λ t. t ++ new) (range_spelled v l));
  read = λ q after f g e.
      let one = r.read (line_of q) after (fits_line v n m.next q f) tt (e ∙ ap (λ t. t ++ after) (spelled_back v q)) in
      (ap Some (ap range_of (same_Some l (line_of q) one.0) ∙ line_back q), one.1);
}

-- no line was read, or one that doesn't go on
none_next : (v : Version) (n : ℕ) (m : Marks) (rest mid any : List ℕ)
    → ReadsSpelling (range_text v) (IsRangeLine v) GoesOnAtAll rest mid None
    → ReadsSpelling (range_bytes v) (FitsNext v n m.next) GoesOnAtAll rest any None
none_next v n m rest mid any r = record {
  spelled = tt;
  read = λ q after f g e. absurd (no_more (line_of q)
      (r.read (line_of q) after (fits_line v n m.next q f) tt (e ∙ ap (λ t. t ++ after) (spelled_back v q))).0);
}

next_refused : (v : Version) (n : ℕ) (m : Marks) (rest mid any : List ℕ) (l : RangeLine)
    → ReadsSpelling (range_text v) (IsRangeLine v) GoesOnAtAll rest mid (Some l) → (RangeGoesOn n m l → ⊥)
    → ReadsSpelling (range_bytes v) (FitsNext v n m.next) GoesOnAtAll rest any None
next_refused v n m rest mid any l r never = record {
  spelled = tt;
  read = λ q after f g e.
      let one = r.read (line_of q) after (fits_line v n m.next q f) tt (e ∙ ap (λ t. t ++ after) (spelled_back v q)) in
      absurd (never (subst (RangeGoesOn n m) (sym (same_Some l (line_of q) one.0)) (fits_goes_on v n m q f)));
}

-- ---- the lines of marks

map_lines : (v : Version) (rs : List Range) → lines_text (map (range_words v) rs) ≡ flat_map (range_bytes v) rs
map_lines v [] = refl
map_lines v (r ∷ rs) = ap (λ t. range_bytes v r ++ t) (map_lines v rs)

-- the lines of marks are those of their ranges
pub ranges_spelled : (v : Version) (m : Marks) → ranges_text v m ≡ flat_map (range_bytes v) (mixed m.finished m.owed)
ranges_spelled v m =
    let front : List ℕ = words (codes "partition") (escape_of [] ∷ decimal m.next ∷ []) in
    let rs : List Range = mixed m.finished m.owed in
    let whole : (front ++ lines_text (map (range_words v) rs ++ [])) ≡ (front ++ ranges_text v m) ++ [] =
    parts_text_is v (([], m) ∷ []) in
    let bare : front ++ lines_text (map (range_words v) rs) ≡ front ++ ranges_text v m =
    ap (λ ls. front ++ lines_text ls) (sym (append-nil (map (range_words v) rs))) ∙ whole
    ∙ append-nil (front ++ ranges_text v m) in
    sym (append_cancel_left front (lines_text (map (range_words v) rs)) (ranges_text v m) bare) ∙ map_lines v rs

-- ---- ranges in line, parted by kind and mixed again

line_above : (low : ℕ) (rs : List Range) (high : ℕ) → InLine low rs high → low ≤ high
line_above low [] high line = omega arith
line_above low (r ∷ rs) high (at, some, rest) = let above = line_above (span_in r).hi rs high rest in omega arith

abbrev Above : ℕ → List marks.Done → Type 0
Above low ds = AllByRecursion (λ (d : marks.Done). low ≤ d.span.lo) ds

weaker : (low from : ℕ) (ds : List marks.Done) → low ≤ from → Above from ds → Above low ds
weaker low from [] le all = tt
weaker low from (d ∷ ds) le all = (let a : from ≤ d.span.lo = all.0 in omega arith, weaker low from ds le all.1)

done_above : (low : ℕ) (rs : List Range) (high : ℕ) → InLine low rs high → Above low (gathered rs).finished
done_above low [] high line = tt
done_above low (inl d ∷ rs) high (at, some, rest) =
    (omega arith, weaker low d.span.hi (gathered rs).finished (omega arith) (done_above d.span.hi rs high rest))
done_above low (inr s ∷ rs) high (at, some, rest) =
    weaker low s.hi (gathered rs).finished (omega arith) (done_above s.hi rs high rest)

owed_first : (s : Span) (ds : List marks.Done) (os : List Span) → Above (s.lo + 1) ds → mixed ds (s ∷ os)
    ≡ inr s ∷ mixed ds os
owed_first s [] os above = refl
owed_first s (d ∷ ds) os above =
    ap (put_range (inl d)) (owed_first s ds os above.1)
    ∙ ap (λ b. cond b (inl d ∷ inr s ∷ mixed ds os) (inr s ∷ put_range (inl d) (mixed ds os)))
    (le-ltb d.span.lo s.lo (let a : s.lo + 1 ≤ d.span.lo = above.0 in omega arith))

done_first : (d : marks.Done) (rs : List Range) (high : ℕ) → d.span.lo < d.span.hi → InLine d.span.hi rs high
    → put_range (inl d) rs ≡ inl d ∷ rs
done_first d [] high some line = refl
done_first d (inl e ∷ rs) high some (at, more, rest) =
    ap (λ b. cond b (inl d ∷ inl e ∷ rs) (inl e ∷ put_range (inl d) rs)) (lt-ltb d.span.lo e.span.lo (omega arith))
done_first d (inr s ∷ rs) high some (at, more, rest) =
    ap (λ b. cond b (inl d ∷ inr s ∷ rs) (inr s ∷ put_range (inl d) rs)) (lt-ltb d.span.lo s.lo (omega arith))

mixed_back : (low : ℕ) (rs : List Range) (high : ℕ) → InLine low rs high
    → mixed (gathered rs).finished (gathered rs).owed ≡ rs
mixed_back low [] high line = refl
mixed_back low (inl d ∷ rs) high (at, some, rest) =
    ap (put_range (inl d)) (mixed_back d.span.hi rs high rest) ∙ done_first d rs high some rest
mixed_back low (inr s ∷ rs) high (at, some, rest) =
    owed_first s (gathered rs).finished (gathered rs).owed
    (weaker (s.lo + 1) s.hi (gathered rs).finished (omega arith) (done_above s.hi rs high rest))
    ∙ ap (λ qs. inr s ∷ qs) (mixed_back s.hi rs high rest)

-- the last of the ranges goes to the end of its kind
gathered_push : (rs : List Range) (l : RangeLine) (next : ℕ)
    → record (gathered (rs ++ range_of l ∷ [])) { next = (span_in (range_of l)).hi }
    ≡ grown_marks l (record (gathered rs) { next = next })
gathered_push [] (Done d) next = refl
gathered_push [] (Open s) next = refl
gathered_push (inl e ∷ rs) (Done d) next =
    ap (λ (m : Marks). record m { finished = e ∷ m.finished }) (gathered_push rs (Done d) next)
gathered_push (inl e ∷ rs) (Open s) next =
    ap (λ (m : Marks). record m { finished = e ∷ m.finished }) (gathered_push rs (Open s) next)
gathered_push (inr o ∷ rs) (Done d) next =
    ap (λ (m : Marks). record m { owed = o ∷ m.owed }) (gathered_push rs (Done d) next)
gathered_push (inr o ∷ rs) (Open s) next =
    ap (λ (m : Marks). record m { owed = o ∷ m.owed }) (gathered_push rs (Open s) next)

line_push : (low : ℕ) (rs : List Range) (mid : ℕ) (r : Range) → InLine low rs mid → (span_in r).lo ≡ mid
    → (span_in r).lo < (span_in r).hi → InLine low (rs ++ r ∷ []) (span_in r).hi
line_push low [] mid r line at some = (at ∙ sym line, some, refl)
line_push low (q ∷ rs) mid r (start, more, rest) at some = (start, more, line_push (span_in q).hi rs mid r rest at some)

-- what stands in line behind some that end here begins here
line_behind : (low : ℕ) (rs : List Range) (mid high : ℕ) (z : Range) (zs : List Range) → InLine low rs mid
    → InLine low (rs ++ z ∷ zs) high → ((span_in z).lo ≡ mid) × ((span_in z).lo < (span_in z).hi)
    × ((span_in z).hi ≤ high)
line_behind low [] mid high z zs line (at, some, rest) = (at ∙ line, some, line_above (span_in z).hi zs high rest)
line_behind low (q ∷ rs) mid high z zs (start, more, rest) (start', more', rest') =
    line_behind (span_in q).hi rs mid high z zs rest rest'

line_end : (low : ℕ) (rs : List Range) (a b : ℕ) → InLine low rs a → InLine low rs b → a ≡ b
line_end low [] a b p q = sym p ∙ q
line_end low (r ∷ rs) a b p q = line_end (span_in r).hi rs a b p.2 q.2

-- ---- ranges that were read

-- the ranges of marks that fit
abbrev Whole : Version → ℕ → List Range → Type 0
Whole v n rs = (m : Marks) × AreMarks v n m × (rs ≡ mixed m.finished m.owed)

-- the index is right of each done range
abbrev pub HasIndex : Version → ℕ → Range → Type 0
HasIndex v n (inl d) = (d.pipeline < n) × IndexIs v d.pipeline
HasIndex v n (inr s) = Unit {0}

pub record SomeRanges (v : Version) (n : ℕ) (old rest : List ℕ) (m : Marks) : Type 0 where
  pub ranges : List Range
  pub along : Along (range_bytes v) (λ rs. Unit {0}) (Whole v n) NoRange old rest ranges
  pub line : InLine 0 ranges m.next
  pub marks : m ≡ record (gathered ranges) { next = m.next }
  pub indexed : AllByRecursion (HasIndex v n) ranges
  pub small : Small m.next

whole_fits : (v : Version) (n : ℕ) (m : Marks) → AreMarks v n m → AllByRecursion (HasIndex v n)
    (mixed m.finished m.owed)
whole_fits v n m are = mixed_each (HasIndex v n) m.finished m.owed
    (from_members (λ (d : marks.Done). (d.pipeline < n) × IndexIs v d.pipeline) m.finished are.indexed)
    (from_members (λ (s : Span). Unit {0}) m.owed (λ s h. tt))

fits_at : (v : Version) (n next high : ℕ) (z : Range) → Small high → HasIndex v n z
    → ((span_in z).lo ≡ next) × ((span_in z).lo < (span_in z).hi) × ((span_in z).hi ≤ high) → FitsNext v n next z
fits_at v n next high (inl d) small index (at, some, below) =
    ((omega arith, omega arith, index.1), at, some, index.0)
fits_at v n next high (inr s) small index (at, some, below) = ((omega arith, omega arith), at, some)

one_more_range : (v : Version) (n : ℕ) (old rest : List ℕ) (m : Marks) (some : SomeRanges v n old rest m)
    → BeginsRange rest → OneMore (range_bytes v) (FitsNext v n m.next) GoesOnAtAll (Whole v n) NoRange rest some.ranges
one_more_range v n old rest m some begins = record {
  more = λ after w g e. ⊎_elim
      (λ b. g.no_done b.0 (sym e ∙ b.1))
      (λ b. g.no_open b.0 (sym e ∙ b.1)) begins;
  fits = λ z zs w.
      let m' : Marks = w.0 in
      let line = subst (λ rs. InLine 0 rs m'.next) (sym w.2) (tiled_in_line m' w.1.tiled) in
      fits_at v n m.next m'.next z w.1.small
      (each_first (HasIndex v n) some.ranges z zs (subst (AllByRecursion (HasIndex v n)) (sym w.2)
      (whole_fits v n m' w.1)))
      (line_behind 0 some.ranges m.next m'.next z zs some.line line);
  goes = λ z zs after w g. tt;
}

grown_next : (l : RangeLine) (m : Marks) → (grown_marks l m).next ≡ (span_in (range_of l)).hi
grown_next (Done d) m = refl
grown_next (Open s) m = refl

goes_at : (n : ℕ) (m : Marks) (l : RangeLine) → RangeGoesOn n m l
    → ((span_in (range_of l)).lo ≡ m.next) × ((span_in (range_of l)).lo < (span_in (range_of l)).hi)
goes_at n m (Done d) g = (g.0, g.1)
goes_at n m (Open s) g = (g.0, g.1)

index_of : (v : Version) (n : ℕ) (m : Marks) (l : RangeLine) → IsRangeLine v l → RangeGoesOn n m l
    → HasIndex v n (range_of l)
index_of v n m (Done d) f g = (g.2, f.2)
index_of v n m (Open s) f g = tt

pub small_hi : (v : Version) (l : RangeLine) → IsRangeLine v l → Small (span_in (range_of l)).hi
small_hi v (Done d) f = f.1
small_hi v (Open s) f = f.1

pub next_range : (v : Version) (n : ℕ) (old rest new : List ℕ) (m after : Marks) (l : RangeLine)
    → SomeRanges v n old rest m
    → BeginsRange rest → ReadsSpelling (range_text v) (IsRangeLine v) GoesOnAtAll rest new (Some l) → RangeGoesOn n m l
    → after ≡ grown_marks l m → SomeRanges v n old new after
next_range v n old rest new m after l some begins r goes is =
    subst (SomeRanges v n old new) (sym is) (record {
      ranges = some.ranges ++ range_of l ∷ [];
      along = one_more old rest new some.ranges (range_of l) some.along (one_more_range v n old rest m some begins)
          (next_read v n m rest new l r goes) tt;
      line = subst (InLine 0 (some.ranges ++ range_of l ∷ [])) (sym (grown_next l m))
          (line_push 0 some.ranges m.next (range_of l) some.line at.0 at.1);
      marks = ap (grown_marks l) some.marks ∙ sym (gathered_push some.ranges l m.next)
          ∙ ap (λ k. record (gathered (some.ranges ++ range_of l ∷ [])) { next = k }) (sym (grown_next l m));
      indexed = pushed some.ranges (range_of l) some.indexed (index_of v n m l r.spelled.0 goes);
      small = subst Small (sym (grown_next l m)) (small_hi v l r.spelled.0);
    })
  where
    at : ((span_in (range_of l)).lo ≡ m.next) × ((span_in (range_of l)).lo < (span_in (range_of l)).hi)
    at = goes_at n m l goes

    pushed : (rs : List Range) (r : Range) → AllByRecursion (HasIndex v n) rs → HasIndex v n r
        → AllByRecursion (HasIndex v n) (rs ++ r ∷ [])
    pushed [] r all one = (one, tt)
    pushed (q ∷ rs) r all one = (all.0, pushed rs r all.1 one)

-- lines read as marks: none
no_marks_read : (v : Version) (n : ℕ) (old new : List ℕ)
    → ReadsSpelling (λ rs. flat_map (range_bytes v) rs) (Whole v n) NoRange old new None
    → ReadsSpelling (ranges_text v) (AreMarks v n) NoRange old new None
no_marks_read v n old new r = record {
  spelled = tt;
  read = λ m after f g e. absurd (no_more (mixed m.finished m.owed)
      (r.read (mixed m.finished m.owed) after (m, f, refl) g (e ∙ ap (λ t. t ++ after) (ranges_spelled v m))).0);
}

pub range_malformed : (v : Version) (n : ℕ) (old rest mid new : List ℕ) (m : Marks) → SomeRanges v n old rest m
    → BeginsRange rest → ReadsSpelling (range_text v) (IsRangeLine v) GoesOnAtAll rest mid None
    → ReadsSpelling (ranges_text v) (AreMarks v n) NoRange old new None
range_malformed v n old rest mid new m some begins r = no_marks_read v n old new
    (one_missing old rest new new some.ranges None None some.along (one_more_range v n old rest m some begins)
    (none_next v n m rest mid new r) refl refl)

pub range_refused : (v : Version) (n : ℕ) (old rest mid new : List ℕ) (m : Marks) (l : RangeLine)
    → SomeRanges v n old rest m
    → BeginsRange rest → ReadsSpelling (range_text v) (IsRangeLine v) GoesOnAtAll rest mid (Some l)
    → (RangeGoesOn n m l → ⊥)
    → ReadsSpelling (ranges_text v) (AreMarks v n) NoRange old new None
range_refused v n old rest mid new m l some begins r never = no_marks_read v n old new
    (one_missing old rest new new some.ranges None None some.along (one_more_range v n old rest m some begins)
    (next_refused v n m rest mid new l r never) refl refl)

done_indexed : (v : Version) (n : ℕ) (rs : List Range) → AllByRecursion (HasIndex v n) rs → (d : marks.Done)
    → Contains (gathered rs).finished d → (d.pipeline < n) × IndexIs v d.pipeline
done_indexed v n [] all d h = none_in d h
done_indexed v n (inl e ∷ rs) all d h = ⊎_elim
    (λ same. subst (λ (x : marks.Done). (x.pipeline < n) × IndexIs v x.pipeline) same all.0)
    (λ k. done_indexed v n rs all.1 d k)
    (in_cases e (gathered rs).finished d h)
done_indexed v n (inr s ∷ rs) all d h = done_indexed v n rs all.1 d h

pub begins_line : (v : Version) (z : Range) (after : List ℕ) (text : List ℕ) → text ≡ range_bytes v z ++ after
    → NoRange text → ⊥
begins_line version_1 (inl d) after text e none = none.no_done (done_numbers version_1 d ++ after) e
begins_line version_2 (inl d) after text e none = none.no_done (done_numbers version_2 d ++ after) e
begins_line v (inr s) after text e none = none.no_open (open_range_text s ++ after) e

-- where no further range stands, they are the marks
pub ranges_read : (v : Version) (n : ℕ) (old rest new : List ℕ) (m : Marks) → SomeRanges v n old rest m → NoRange rest
    → new ≡ rest → ReadsSpelling (ranges_text v) (AreMarks v n) NoRange old new (Some m)
ranges_read v n old rest new m some none is =
    subst (λ x. ReadsSpelling (ranges_text v) (AreMarks v n) NoRange old x (Some m)) (sym is) (record {
      spelled = (
        are,
        all.spelled.1 ∙ ap (λ t. t ++ rest) (ap (flat_map (range_bytes v)) (sym mixes)
            ∙ sym (ranges_spelled v m)),
      );
      read = λ k after f g e.
          let one = all.read (mixed k.finished k.owed) after (k, f, refl) g
          (e ∙ ap (λ t. t ++ after) (ranges_spelled v k)) in
          (ap Some (level k f (same_Some some.ranges (mixed k.finished k.owed) one.0)), one.1);
    })
  where
    are : AreMarks v n m
    are = record {
      tiled = subst Tiled (sym some.marks) (line_tiles some.ranges m.next some.line);
      small = some.small;
      indexed = λ d h. done_indexed v n some.ranges some.indexed d
          (subst (λ (x : Marks). Contains x.finished d) some.marks h);
    }

    mixes : mixed m.finished m.owed ≡ some.ranges
    mixes = (λ i. mixed (some.marks i).finished (some.marks i).owed) ∙ mixed_back 0 some.ranges m.next some.line

    all : ReadsSpelling (λ rs. flat_map (range_bytes v) rs) (Whole v n) NoRange old rest (Some some.ranges)
    all = all_read old rest some.ranges some.along (m, are, sym mixes)
        (λ z zs after w g e. begins_line v z (flat_map (range_bytes v) zs ++ after) rest e none)

    level : (k : Marks) → AreMarks v n k → some.ranges ≡ mixed k.finished k.owed → m ≡ k
    level k f same =
        let back = gathered_mixed 0 k.finished k.owed f.tiled.finished in
        let ends = line_end 0 some.ranges m.next k.next some.line
        (subst (λ rs. InLine 0 rs k.next) (sym same) (tiled_in_line k f.tiled)) in
        some.marks ∙ (λ i. record (gathered (same i)) { next = ends i })
        ∙ ap (λ (x : Marks). record x { next = k.next }) back
