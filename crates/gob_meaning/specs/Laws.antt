-- Laws of what units make.
use Rattle.std.specs.Prelude.{◌≡◌, ◌≢◌, ◌⊎◌, ◌↔◌, ◌<◌, ◌≤◌, ◌^◌, ℕ, ◌+◌, ◌-◌, Bool, true, false, ◌&&◌, ◌||◌, nat_eq}
use Rattle.std.specs.Prelude.{List, [], ◌∷◌, ◌++◌, length, map, count_by}
use Rattle.std.specs.declared.option.Option.TheVariants.{None, Some}
use Rattle.std.specs.declared.result.Result.TheVariants.{Ok}
use Rattle.std.specs.Str.{is_utf8}
use Rattle.gob_bytes.specs.Lines.{Line, lines, lines_from, start_from, rest, ends_in_lf}
use Rattle.gob_convert.specs.Made.{all_made}
use Rattle.gob_plan.specs.declared.rows.Column.{Column}
use Rattle.gob_plan.specs.declared.rows.Row.{Row}
use Rattle.gob_plan.specs.declared.steps.StepSpec.{StepSpec}
use Rattle.gob_plan.specs.declared.steps.StepSpec.TheVariants as step
use Rattle.gob_plan.specs.declared.checks.TestSpec.{TestSpec}
use Rattle.gob_plan.specs.Tests.{test_fits}
use Rattle.gob_plan.specs.declared.plan.Format.{Format}
use Rattle.gob_plan.specs.Columns.{is_columns}
use Rattle.gob_plan.specs.Rows.{conforms}
use Rattle.gob_meaning.specs.Formats.{line_rows, record_of}
use Rattle.gob_meaning.specs.Steps.{columns_after, step_rows, columns_through, chain_rows, first_refused}
use Rattle.gob_meaning.specs.Plans.{reads_columns, writes_columns, is_fitting, IsFitting, without_rules}
use Rattle.gob_plan.specs.declared.plan.PlaceSpec.TheVariants as place
use Rattle.gob_plan.specs.declared.plan.BranchSpec.{BranchSpec}
use Rattle.gob_plan.specs.declared.plan.Plan.{Plan}
use Rattle.gob_plan.specs.declared.units.Counts.{Counts}
use Rattle.gob_plan.specs.declared.units.Unit.{Unit as WorkUnit}
use Rattle.gob_meaning.specs.Days.{date_of, IsDateOf}
use Rattle.gob_meaning.specs.Items.{Target, out, err, bad, RowMade, LineMade, nothing, bad_line, made, line_made}
use Rattle.gob_meaning.specs.Fold.{Folded, folded_line, unit_fold, deliveries_of, sent_to, is_bad, counts_of}
use Rattle.gob_meaning.specs.Fold.{saturate_u64, stops_or, stop_from, before_stop_from, stop_of, before_stop}
use Rattle.gob_meaning.specs.Sums.{sum_of}
use Rattle.gob_meaning.specs.Results.{good, verdict_of}
use Rattle.gob_bytes.specs.Escapes.{AreBytes}
use Rattle.gob_meaning.specs.Names.{target_name}
use Rattle.gob_meaning.specs.Job.{plain_plan}

-- ---- a text in two parts

-- the fold of a text in two parts is that of the first, and then the lines that go on from its rest
pub record FoldJoins (plan : Plan) (lo : ℕ) (x y : List ℕ) : Type 0 where
  pub lines : unit_fold plan lo (x ++ y)
      ≡ unit_fold plan lo x ++ map (folded_line plan lo) (lines_from (start_from 0 [] x) (rest x) y)
  pub whole : ends_in_lf x ≡ true → unit_fold plan lo (x ++ y) ≡ unit_fold plan lo x ++ unit_fold plan (lo + length x) y

-- how many lines of a fold are bad
abbrev pub bad_line_count : List Folded → ℕ
bad_line_count fold = count_by (λ f. is_bad f.made) fold

-- what is said of two parts of a fold, one after the other: what is sent adds up and so do the counts; what stops the
-- first stops both, and else the second stops where it would after as many bad lines
pub record PartsJoin (plan : Plan) (x y : List Folded) : Type 0 where
  pub deliveries : deliveries_of (x ++ y) ≡ deliveries_of x ++ deliveries_of y
  pub sent : (t : Target)
      → sent_to t (deliveries_of (x ++ y)) ≡ sent_to t (deliveries_of x) ++ sent_to t (deliveries_of y)
  pub counts : counts_of plan (x ++ y) ≡ sum_of (counts_of plan x) (counts_of plan y)
  pub stop : stop_of plan (x ++ y)
      ≡ stops_or (stop_of plan x) (λ c. Some c) (stop_from (plan.skip_errors - bad_line_count x) y)
  pub before : before_stop plan (x ++ y) ≡ stops_or (stop_of plan x) (λ c. before_stop plan x)
      (x ++ before_stop_from (plan.skip_errors - bad_line_count x) y)
  pub all : stop_of plan x ≡ None → before_stop plan x ≡ x

-- ---- whole lines, as they are

-- a carriage return stands right before a line feed
abbrev pub has_crlf : List ℕ → Bool
has_crlf [] = false
has_crlf (b ∷ []) = false
has_crlf (b ∷ c ∷ bs) = (nat_eq b 13 && nat_eq c 10) || has_crlf (c ∷ bs)

-- UTF-8 that is empty or ends in a line feed, before which no carriage return stands anywhere
pub record IsPlainText (bytes : List ℕ) : Type 0 where
  pub whole : (bytes ≡ []) ⊎ (ends_in_lf bytes ≡ true)
  pub bare : has_crlf bytes ≡ false
  pub text : is_utf8 bytes ≡ true

-- the counts of so many lines that are all written by the one branch
abbrev pub all_written : ℕ → Counts
all_written n = record {
  records = n;
  bad = 0;
  rows = n;
  unrouted = 0;
  branches = record { written = n; errors = 0; optional = 0 } ∷ [];
}

-- under the plain plan these bytes go as they are to the one published file, and nothing else comes of them
pub record MakesItself (lo : ℕ) (bytes : List ℕ) : Type 0 where
  pub sent : sent_to (out 0 []) (deliveries_of (unit_fold plain_plan lo bytes)) ≡ bytes
  pub alone : (t : Target) → t ≢ out 0 [] → sent_to t (deliveries_of (unit_fold plain_plan lo bytes)) ≡ []
  pub goes_on : stop_of plain_plan (unit_fold plain_plan lo bytes) ≡ None
  pub all : before_stop plain_plan (unit_fold plain_plan lo bytes) ≡ unit_fold plain_plan lo bytes
  pub counts : counts_of plain_plan (unit_fold plain_plan lo bytes) ≡ all_written (saturate_u64 (length (lines bytes)))

-- and a unit of such bytes is good
abbrev pub IsGoodAlone : WorkUnit → List ℕ → Type 0
IsGoodAlone unit bytes = unit.listed ≡ true → ends_in_lf bytes ≡ true
    → verdict_of plain_plan unit bytes ≡ good (all_written (saturate_u64 (length (lines bytes)))) []

-- ---- names

-- a place that a name can have: empty, or with a '/' at its end
abbrev pub is_folder : List ℕ → Bool
is_folder [] = true
is_folder (b ∷ []) = nat_eq b 47
is_folder (b ∷ c ∷ bs) = is_folder (c ∷ bs)

-- a target whose place is a folder
abbrev pub IsPlaced : Target → Type 0
IsPlaced (out b place) = (b < 2 ^ 64) × (is_folder place ≡ true)
IsPlaced (err b place) = (b < 2 ^ 64) × (is_folder place ≡ true)
IsPlaced bad = Unit {0}

-- a range of a partition, in bytes and offsets
abbrev pub IsRange : List ℕ → ℕ → ℕ → Type 0
IsRange part lo hi = AreBytes part × (lo < 2 ^ 64) × (hi < 2 ^ 64)

-- two files of one name are of one target and one range of one partition, whatever the plans are
abbrev pub NamesTellApart : Type 0
NamesTellApart = (plan plan' : Plan) (part part' : List ℕ) (lo lo' hi hi' : ℕ) (t t' : Target)
    → IsRange part lo hi → IsRange part' lo' hi' → IsPlaced t → IsPlaced t'
    → target_name plan part lo hi t ≡ target_name plan' part' lo' hi' t'
    → (part ≡ part') × (lo ≡ lo') × (hi ≡ hi') × (t ≡ t')

-- what a unit sends goes to targets whose places are folders
abbrev pub SentIsPlaced : Type 0
SentIsPlaced = (plan : Plan) (lo : ℕ) (bytes : List ℕ) (t : Target) → length plan.branches ≤ 2 ^ 64
    → sent_to t (deliveries_of (unit_fold plan lo bytes)) ≢ [] → IsPlaced t

-- each day up to the end of the year 9999 has its date
abbrev pub DaysHaveDates : Type 0
DaysHaveDates = (number : ℕ) → number ≤ 2932896 → IsDateOf number (date_of number)

-- ---- places

-- a plan that places nothing in a folder
abbrev pub without_places : Plan → Plan
without_places plan = record plan { branches = map plain plan.branches }
  where
    plain : BranchSpec → BranchSpec
    plain branch = record branch { place = place.Plain }

-- what a line makes, in no folder
abbrev pub outside_folders : LineMade → LineMade
outside_folders nothing = nothing
outside_folders (bad_line raw) = bad_line raw
outside_folders (made m) = made (record m { items = map outside m.items })
  where
    outside : RowMade → RowMade
    outside i = record i { place = [] }

-- places say in which folder of its branch an item goes, and change nothing else of what a line makes
abbrev pub PlacesAside : Plan → Type 0
PlacesAside plan = (offset : ℕ) (l : Line)
    → line_made (without_places plan) offset l ≡ outside_folders (line_made plan offset l)

-- ---- rows that conform

-- a step that isn't refused makes proper columns of proper ones, and of a row that conforms to those it makes rows that
-- conform to these
pub record StepKeeps (s : StepSpec) (columns after : List Column) : Type 0 where
  pub proper : is_columns columns ≡ true → columns_after s columns ≡ Ok after → is_columns after ≡ true
  pub rows : (row : Row) → is_columns columns ≡ true → columns_after s columns ≡ Ok after
      → conforms columns row ≡ true → all_made (conforms after) (step_rows s columns row) ≡ true

-- and so do steps of which none is refused, one after the other
pub record StepsKeep (ss : List StepSpec) (columns : List Column) : Type 0 where
  pub proper : is_columns columns ≡ true → first_refused ss columns ≡ None
      → is_columns (columns_through ss columns) ≡ true
  pub rows : (row : Row) → is_columns columns ≡ true → first_refused ss columns ≡ None
      → conforms columns row ≡ true
      → all_made (conforms (columns_through ss columns)) (chain_rows ss columns row) ≡ true

-- the rows that a line is conform to the columns that it is read for, where these are ones that the format writes: of
-- whole lines one of kind text, whatever its name; and a record ends in a line feed
pub record FormatKeeps (f : Format) (columns : List Column) : Type 0 where
  pub rows : (line : List ℕ) → writes_columns f columns ≡ true
      → all_made (conforms columns) (line_rows f columns line) ≡ true
  pub record_ends : (row : Row) (bytes : List ℕ) → record_of f columns row ≡ Some bytes → ends_in_lf bytes ≡ true

-- a test fits columns exactly where the step that asks it isn't refused on them
abbrev pub TestsFit : TestSpec → List Column → Type 0
TestsFit t columns = (test_fits t columns ≡ true) ↔ (columns_after (step.Where t) columns ≡ Ok columns)

-- columns that a format reads it also writes
abbrev pub ReadIsWritten : Format → List Column → Type 0
ReadIsWritten f columns = reads_columns f columns ≡ true → writes_columns f columns ≡ true

-- ---- plans

-- a plan fits exactly where all of its parts do
abbrev pub FitsInParts : Plan → Type 0
FitsInParts plan = (is_fitting plan ≡ true) ↔ IsFitting plan

-- without its rules for whole units a plan fits as before and makes, counts and names the same; as many bad records
-- pass as any plan lets pass, and each unit that isn't stopped and ends in a line feed is good
pub record RulesAside (plan : Plan) : Type 0 where
  pub fitting : is_fitting plan ≡ true → is_fitting (without_rules plan) ≡ true
  pub fold : (lo : ℕ) (bytes : List ℕ) → unit_fold (without_rules plan) lo bytes ≡ unit_fold plan lo bytes
  pub counts : (fold : List Folded) → counts_of (without_rules plan) fold ≡ counts_of plan fold
  pub names : (part : List ℕ) (lo hi : ℕ) (t : Target)
      → target_name (without_rules plan) part lo hi t ≡ target_name plan part lo hi t
  pub most : (limit : ℕ) → (limit < 2 ^ 64) ↔ (limit ≤ (without_rules plan).skip_errors)
  pub judged : (unit : WorkUnit) (bytes : List ℕ) → unit.listed ≡ true → ends_in_lf bytes ≡ true
      → stop_of (without_rules plan) (unit_fold plan unit.lo bytes) ≡ None
      → verdict_of (without_rules plan) unit bytes ≡ good (counts_of plan (unit_fold plan unit.lo bytes)) []
