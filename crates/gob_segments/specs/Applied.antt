-- How a change is put over a state, piece by piece.
use Rattle.std.specs.Prelude.{◌≡◌, ◌⊎◌, ℕ, ◌+◌, ◌<◌, ◌≤◌, ◌^◌, if◌then◌else◌, true, nat_lt, List, [], ◌∷◌, ◌++◌, drop}
use Rattle.std.specs.Prelude.{length, map, codes}
use Rattle.std.specs.declared.cmp.Ordering.TheVariants.{Less}
use Rattle.std.specs.declared.option.Option.TheVariants.{Some}
use Rattle.std.specs.List.{AllByRecursion, IsDistinct, filter, list_any}
use Rattle.std.specs.Str.{bytes_eq}
use Rattle.gob_plan.specs.declared.units.Counts.{Counts}
use Rattle.gob_state.specs.Counts.{AreTotals}
use Rattle.gob_bytes.specs.Tables.{Table, at_name, name_cmp, names_of, IsInByteOrder}
use Rattle.gob_bytes.specs.Words.{numbered_line}
use Rattle.gob_ledger.specs.Marks as marks
use Rattle.gob_ledger.specs.Marks.{Marks, Span}
use Rattle.gob_ledger.specs.Next.{with_done, with_owed}
use Rattle.gob_ledger.specs.Units.{same_span}
use Rattle.gob_ledger.specs.Spelling.{IsKeptPipeline, Small, Version, version_1, version_2, version_number}
use Rattle.gob_ledger.specs.Spelling.{parts_text, pipelines_text, totals_text}
use Rattle.gob_ledger.specs.State.{State}
use Rattle.gob_ledger.specs.Delta.{MarksFollow, OneMore, ReadsAsChange, changed_marks, has_ranges}
use Rattle.gob_marks.specs.Changed.{marks_in, with_new_done}
use Rattle.gob_text.specs.Words.{IsName}
use Rattle.gob_state.specs.Parts.{IsPart, part_rest}
use Rattle.gob_state.specs.Ranges.{AreMarks}
use Rattle.gob_state.specs.declared.ranges.RangeLine.{RangeLine}
use Rattle.gob_state.specs.declared.ranges.RangeLine.TheVariants.{Done, Open}

-- ---- a line of a range

abbrev pub begin_of : RangeLine → ℕ
begin_of (Done d) = d.span.lo
begin_of (Open s) = s.lo

-- the range begins at `from` or behind it, and is owed, or begins where the others end
abbrev pub CanPut : ℕ → ℕ → Marks → RangeLine → Type 0
CanPut from n m (Done d) = (from ≤ d.span.lo) × (d.span.lo < d.span.hi) × (d.pipeline < n)
    × ((list_any (same_span d.span) m.owed ≡ true) ⊎ (d.span.lo ≡ m.next))
CanPut from n m (Open s) = (s.lo ≡ m.next) × (s.lo < s.hi)

-- the marks with this range: an owed one is done, or it comes behind the others
abbrev pub with_range_line : RangeLine → Marks → Marks
with_range_line (Done d) m = if nat_lt d.span.lo m.next then with_done d.pipeline d.span m
    else with_new_done d.pipeline d.span m
with_range_line (Open s) m = with_owed s m

-- ---- a partition

-- marks to which a change leads, with pipelines of so many
pub record MarksAfter (v : Version) (n : ℕ) (before m : Marks) : Type 0 where
  pub are : AreMarks v n m
  pub follow : MarksFollow before m
  pub some : has_ranges ([], changed_marks before m) ≡ true

-- what is spelled of a partition, over the table before
abbrev pub changed_entry : Table Marks → List ℕ × Marks → List ℕ × Marks
changed_entry t e = (e.0, changed_marks (marks_in t e.0) e.1)

-- a partition that has changed, behind the word
abbrev pub change_rest : Version → Table Marks → List ℕ × Marks → List ℕ
change_rest v t e = part_rest v (changed_entry t e)

-- a partition that has changed, with a name above the last one
abbrev pub IsChange : Version → ℕ → Table Marks → List ℕ → List ℕ × Marks → Type 0
IsChange v n t last e = IsName e.0 × MarksAfter v n (marks_in t e.0) e.1 × (name_cmp last e.0 ≡ Less)

-- ---- all partitions

abbrev pub changed_table : Table Marks → Table Marks → Table Marks
changed_table before after = filter has_ranges (map (changed_entry before) after)

-- each partition is one that the version can tell, with pipelines of so many
abbrev pub AreParted : Version → ℕ → Table Marks → Type 0
AreParted v n t = (part : List ℕ) (m : Marks) → at_name t part ≡ Some m → IsPart v n (part, m)

-- partitions to which a change leads, with pipelines of so many
pub record PartsAfter (v : Version) (n : ℕ) (before after : Table Marks) : Type 0 where
  pub names : IsInByteOrder (names_of after)
  pub parts : AreParted v n after
  pub stay : (part : List ℕ) (m : Marks) → at_name before part ≡ Some m → (k : Marks) × (at_name after part ≡ Some k)
  pub follow : (part : List ℕ) → MarksFollow (marks_in before part) (marks_in after part)

-- ---- the state

-- the bytes are no change behind the state
abbrev pub ReadsAsNoChange : Version → State → List ℕ → Type 0
ReadsAsNoChange v s bytes = (t : State) → ReadsAsChange v s bytes t → ⊥

-- the first line of a change, and its run's
abbrev pub front_text : Version → ℕ → List ℕ
front_text v n = numbered_line (codes "gobblin-delta") (version_number v ∷ []) ++ numbered_line (codes "run") (n ∷ [])

abbrev pub IsNextRun : ℕ → ℕ → Type 0
IsNextRun run n = (n ≡ run + 1) × Small n

-- the pipelines that came, where the version tells them
abbrev pub later_text : Version → List (List ℕ) → List (List ℕ) → List ℕ
later_text version_1 ps qs = []
later_text version_2 ps qs = pipelines_text version_2 (drop (length ps) qs)

-- a version that tells no pipeline keeps one alone
abbrev pub StayAlone : Version → List (List ℕ) → List (List ℕ) → Type 0
StayAlone version_1 ps qs = (length ps ≡ 1) × (qs ≡ ps)
StayAlone version_2 ps qs = Unit {0}

-- pipelines that differ
abbrev pub AreApart : List (List ℕ) → Type 0
AreApart ps = AllByRecursion IsKeptPipeline ps × IsDistinct bytes_eq ps

-- pipelines to which a change leads
pub record PipelinesAfter (v : Version) (before after : List (List ℕ)) : Type 0 where
  pub more : OneMore before after
  pub apart : AreApart after
  pub alone : StayAlone v before after

-- totals and partitions, over the table before
abbrev pub counted_text_over : Version → Table Marks → Counts × Table Marks → List ℕ
counted_text_over v t z = totals_text z.0 ++ parts_text v (changed_table t z.1)

-- totals of so many branches at least
abbrev pub TotalsAfter : ℕ → Counts → Type 0
TotalsAfter least c = AreTotals c × (least ≤ length c.branches)

abbrev pub CountedAfter : Version → ℕ → ℕ → Table Marks → Counts × Table Marks → Type 0
CountedAfter v n least t z = TotalsAfter least z.0 × PartsAfter v n t z.1

-- all between the first two lines and the last one
abbrev pub rest_text_over : Version → State → List (List ℕ) × (Counts × Table Marks) → List ℕ
rest_text_over v s z = later_text v s.pipelines z.0 ++ counted_text_over v s.parts z.1

abbrev pub RestAfter : Version → State → List (List ℕ) × (Counts × Table Marks) → Type 0
RestAfter v s z = (PipelinesAfter v s.pipelines z.0 × Small (length z.0))
    × CountedAfter v (length z.0) (length s.totals.branches) s.parts z.1

-- the state with this run, and with what stands behind it
abbrev pub state_with : ℕ → List (List ℕ) × (Counts × Table Marks) → State
state_with run z = record { run = run; pipelines = z.0; totals = z.1.0; parts = z.1.1 }
