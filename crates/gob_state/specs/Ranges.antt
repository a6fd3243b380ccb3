-- The lines of a partition's ranges.
use Rattle.std.specs.Prelude.{◌≡◌, ◌≢◌, ◌⊎◌, ◌<◌, ℕ, List, ◌++◌, codes}
use Rattle.std.specs.declared.option.Option.{Option}
use Rattle.std.specs.declared.option.Option.TheVariants.{None, Some}
use Rattle.std.specs.List.{Contains, flat_map}
use Rattle.gob_ledger.specs.Marks as marks
use Rattle.gob_ledger.specs.Next.{with_owed}
use Rattle.gob_ledger.specs.Spelling.{Version, version_1, version_2, Small, range_lines}
use Rattle.gob_marks.specs.Changed.{with_new_done}
use Rattle.gob_text.specs.Words.{GoesOnAtAll}
use Rattle.gob_state.specs.Reads.{ReadsSpelling, spaced_pair, spaced_triple}
use Rattle.gob_state.specs.declared.ranges.RangeLine.{RangeLine}
use Rattle.gob_state.specs.declared.ranges.RangeLine.TheVariants.{Done, Open}

-- a done range behind the word
abbrev pub done_numbers : Version → marks.Done → List ℕ
done_numbers version_1 d = spaced_pair (d.span.lo, d.span.hi)
done_numbers version_2 d = spaced_triple (d.span.lo, d.span.hi, d.pipeline)

-- the first version tells one pipeline alone
abbrev pub IndexIs : Version → ℕ → Type 0
IndexIs version_1 i = i ≡ 0
IndexIs version_2 i = Small i

-- a done range that the version can tell
abbrev pub IsDoneLine : Version → marks.Done → Type 0
IsDoneLine v d = Small d.span.lo × Small d.span.hi × IndexIs v d.pipeline

-- an open range behind the word
abbrev pub open_range_text : marks.Span → List ℕ
open_range_text s = spaced_pair (s.lo, s.hi)

abbrev pub IsOpenLine : marks.Span → Type 0
IsOpenLine s = Small s.lo × Small s.hi

abbrev pub range_text : Version → RangeLine → List ℕ
range_text v (Done d) = codes "done" ++ done_numbers v d
range_text v (Open s) = codes "open" ++ open_range_text s

-- a range that the version can tell
abbrev pub IsRangeLine : Version → RangeLine → Type 0
IsRangeLine v (Done d) = IsDoneLine v d
IsRangeLine v (Open s) = IsOpenLine s

-- no line of a range stands here
pub record NoRange (text : List ℕ) : Type 0 where
  pub no_done : (after : List ℕ) → text ≢ codes "done" ++ after
  pub no_open : (after : List ℕ) → text ≢ codes "open" ++ after

abbrev pub BeginsRange : List ℕ → Type 0
BeginsRange text = ((after : List ℕ) × (text ≡ codes "done" ++ after))
    ⊎ ((after : List ℕ) × (text ≡ codes "open" ++ after))

-- the line of a range, malformed or not, or another line
abbrev pub TakesRange : Version → List ℕ → List ℕ → Option (Option RangeLine) → Type 0
TakesRange v old new None = BeginsRange old × ReadsSpelling (range_text v) (IsRangeLine v) GoesOnAtAll old new None
TakesRange v old new (Some None) = NoRange old × (new ≡ old)
TakesRange v old new (Some (Some r)) = BeginsRange old × ReadsSpelling (range_text v)
    (IsRangeLine v) GoesOnAtAll old new
    (Some r)

-- the range begins where the others end, and its pipeline is one of so many
abbrev pub RangeGoesOn : ℕ → marks.Marks → RangeLine → Type 0
RangeGoesOn n m (Done d) = (d.span.lo ≡ m.next) × (d.span.lo < d.span.hi) × (d.pipeline < n)
RangeGoesOn n m (Open s) = (s.lo ≡ m.next) × (s.lo < s.hi)

-- the marks with one range more
abbrev pub grown_marks : RangeLine → marks.Marks → marks.Marks
grown_marks (Done d) m = with_new_done d.pipeline d.span m
grown_marks (Open s) m = with_owed s m

-- the lines of a partition's ranges
abbrev pub ranges_text : Version → marks.Marks → List ℕ
ranges_text v m = flat_map (λ l. l.1) (range_lines v m)

-- marks that the version can tell, with pipelines of so many
pub record AreMarks (v : Version) (n : ℕ) (m : marks.Marks) : Type 0 where
  pub tiled : marks.Tiled m
  pub small : Small m.next
  pub indexed : (d : marks.Done) → Contains m.finished d → (d.pipeline < n) × IndexIs v d.pipeline
