-- How a state is spelled, in each of the two versions of its file.
use Rattle.std.specs.Prelude.{◌≡◌, ◌≢◌, ℕ, ◌^◌, ◌<◌, ◌≤◌, Bool, true, false, cond, ◌||◌, nat_eq, nat_lt, List, [], ◌∷◌}
use Rattle.std.specs.Prelude.{◌++◌, map, length, codes}
use Rattle.std.specs.declared.option.Option.TheVariants.{Some}
use Rattle.std.specs.List.{All, count_by, enumerate_from, flat_map, list_all, IsDistinct}
use Rattle.std.specs.Fmt.{decimal}
use Rattle.std.specs.Str.{bytes_eq, IsUtf8}
use Rattle.gob_bytes.specs.Escapes.{escape_of, is_letter, is_digit}
use Rattle.gob_bytes.specs.Tables.{Table, names_of, IsInByteOrder}
use Rattle.gob_bytes.specs.Words.{words, numbered_line}
use Rattle.gob_plan.specs.declared.units.BranchCounts.{BranchCounts}
use Rattle.gob_plan.specs.declared.units.Counts.{Counts}
use Rattle.gob_jobs.specs.Pipelines.{IsSetting, setting_line}
use Rattle.gob_ledger.specs.Marks.{Marks, Done, Span}
use Rattle.gob_ledger.specs.State.{State, marks_at, TiledState}

-- a number that a file can hold
abbrev pub Small : ℕ → Type 0
Small n = n < 2 ^ 64

-- a text that describes a pipeline, of so many lines that a file can tell their number
abbrev pub IsKeptPipeline : List ℕ → Type 0
IsKeptPipeline text = (settings : List (List ℕ × List ℕ))
    × All (λ s. IsSetting s.0 s.1) settings × (text ≡ flat_map setting_line settings) × Small (length settings)

pub record SmallBranch (c : BranchCounts) : Type 0 where
  pub written : Small c.written
  pub errors : Small c.errors
  pub optional : Small c.optional

pub record SmallCounts (c : Counts) : Type 0 where
  pub records : Small c.records
  pub bad : Small c.bad
  pub rows : Small c.rows
  pub unrouted : Small c.unrouted
  pub branches : All SmallBranch c.branches

-- a partition of a state
pub record ProperPart (name : List ℕ) (m : Marks) : Type 0 where
  pub named : name ≢ []
  pub text : IsUtf8 name
  pub begun : 0 < m.next
  pub small : Small m.next

-- a state that can be kept
pub record Proper (s : State) : Type 0 where
  pub run : Small s.run
  pub pipelines : All IsKeptPipeline s.pipelines
  pub few : Small (length s.pipelines)
  pub differ : IsDistinct bytes_eq s.pipelines
  pub totals : SmallCounts s.totals
  pub branches : (1 ≤ length s.totals.branches) × (length s.totals.branches ≤ 8)
  pub names : IsInByteOrder (names_of s.parts)
  pub parts : (part : List ℕ) (m : Marks) → marks_at s part ≡ Some m → ProperPart part m
  pub tiled : TiledState s

-- the versions of a state's files: of one pipeline, or of any number
pub data Version : Type 0 where
  version_1 : Version
  version_2 : Version

abbrev pub version_number : Version → ℕ
version_number version_1 = 1
version_number version_2 = 2

-- the version can spell the state
abbrev pub FitsVersion : Version → State → Type 0
FitsVersion version_1 s = length s.pipelines ≡ 1
FitsVersion version_2 s = Unit {0}

abbrev pub branch_line : ℕ × BranchCounts → List ℕ
branch_line p = numbered_line (codes "branch") (p.0 ∷ p.1.written ∷ p.1.errors ∷ p.1.optional ∷ [])

-- a line with the offset by which it is placed
abbrev pub Placed : Type 0
Placed = ℕ × List ℕ

abbrev pub put_line : Placed → List Placed → List Placed
put_line l [] = l ∷ []
put_line l (m ∷ ms) = cond (nat_lt l.0 m.0) (l ∷ m ∷ ms) (m ∷ put_line l ms)

abbrev pub put_lines : List Placed → List Placed → List Placed
put_lines [] ms = ms
put_lines (l ∷ ls) ms = put_line l (put_lines ls ms)

-- which pipeline made a range, where there may be several
abbrev pub made_by : Version → Done → List ℕ
made_by version_1 d = []
made_by version_2 d = d.pipeline ∷ []

abbrev pub done_line : Version → Done → Placed
done_line v d = (d.span.lo, numbered_line (codes "done") (d.span.lo ∷ d.span.hi ∷ made_by v d))

abbrev pub open_line : Span → Placed
open_line s = (s.lo, numbered_line (codes "open") (s.lo ∷ s.hi ∷ []))

-- the lines of a partition's ranges, by their offsets
abbrev pub range_lines : Version → Marks → List Placed
range_lines v m = put_lines (map (done_line v) m.finished) (map open_line m.owed)

abbrev pub part_text : Version → List ℕ × Marks → List ℕ
part_text v e =
    words (codes "partition") (escape_of e.0 ∷ decimal e.1.next ∷ []) ++ flat_map (λ l. l.1) (range_lines v e.1)

abbrev pub parts_text : Version → Table Marks → List ℕ
parts_text v parts = flat_map (part_text v) parts

abbrev pub line_count : List ℕ → ℕ
line_count text = count_by (λ b. nat_eq b 10) text

abbrev pub pipeline_part : List ℕ → List ℕ
pipeline_part p = numbered_line (codes "pipeline") (line_count p ∷ []) ++ p

-- how many pipelines there are, where there may be several
abbrev pub pipelines_line : Version → List (List ℕ) → List ℕ
pipelines_line version_1 ps = []
pipelines_line version_2 ps = numbered_line (codes "pipelines") (length ps ∷ [])

abbrev pub pipelines_text : Version → List (List ℕ) → List ℕ
pipelines_text v ps = pipelines_line v ps ++ flat_map pipeline_part ps

abbrev pub totals_text : Counts → List ℕ
totals_text c =
    numbered_line (codes "totals") (c.records ∷ c.bad ∷ c.rows ∷ c.unrouted ∷ [])
    ++ flat_map branch_line (enumerate_from 0 c.branches)

-- a file's first line and its run's, then what it holds, then its last line
abbrev pub file_text : List ℕ → Version → ℕ → List ℕ → List ℕ
file_text kind v run inner =
    numbered_line kind (version_number v ∷ []) ++ numbered_line (codes "run") (run ∷ []) ++ inner ++ codes "end" ++ 10
    ∷ []

unfoldable pub state_spelling : Version → State → List ℕ
state_spelling v s =
    file_text (codes "gobblin-state") v s.run
    (pipelines_text v s.pipelines ++ totals_text s.totals ++ parts_text v s.parts)

-- these bytes read as this state, in this version
pub record ReadsAs (v : Version) (bytes : List ℕ) (s : State) : Type 0 where
  pub spelled : bytes ≡ state_spelling v s
  pub fits : FitsVersion v s
  pub proper : Proper s
