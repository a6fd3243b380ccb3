-- What `report`, `recover` and `check` tell.
use Rattle.std.specs.Prelude.{ℕ, Bool, if◌then◌else◌, nat_eq, List, [], ◌∷◌, ◌++◌, map, codes}
use Rattle.std.specs.declared.option.Option.{Option}
use Rattle.std.specs.declared.option.Option.TheVariants.{None, Some}
use Rattle.std.specs.List.{count_by, flat_map, enumerate_from, join_with_byte, sum_by}
use Rattle.std.specs.Fmt.{decimal}
use Rattle.gob_bytes.specs.Words.{words}
use Rattle.gob_bytes.specs.Escapes.{escape_of}
use Rattle.gob_plan.specs.declared.rows.Column.{Column}
use Rattle.gob_plan.specs.declared.rows.Kind.{Kind}
use Rattle.gob_plan.specs.declared.rows.Kind.TheVariants as kind
use Rattle.gob_plan.specs.declared.plan.BranchSpec.{BranchSpec}
use Rattle.gob_plan.specs.declared.plan.Format.{Format}
use Rattle.gob_plan.specs.declared.plan.Format.TheVariants as format
use Rattle.gob_plan.specs.declared.plan.Plan.{Plan}
use Rattle.gob_meaning.specs.Steps.{columns_through}
use Rattle.gob_ledger.specs.Marks.{Marks, Span}
use Rattle.gob_ledger.specs.State.{State, empty_state}
use Rattle.gob_texts.specs.Refusals.{status_line}
use Rattle.gob_texts.specs.Report.{mark_line, total_lines}

-- ---- report: what a state says

abbrev pub open_range_line : List ℕ → Span → List ℕ
open_range_line part s = words (codes "open") (escape_of part ∷ decimal s.lo ∷ decimal s.hi ∷ [])

-- a partition's mark, and the ranges that it owes
abbrev pub part_lines : List ℕ × Marks → List ℕ
part_lines e = mark_line e ++ flat_map (open_range_line e.0) e.1.owed

-- how many done ranges a pipeline made
abbrev pub ranges_by : ℕ → State → ℕ
ranges_by index s = sum_by (λ e. count_by (λ d. nat_eq d.pipeline index) e.1.finished) s.parts

abbrev pub pipeline_line : State → ℕ → List ℕ
pipeline_line s index = words (codes "pipeline") (decimal index ∷ codes "ranges" ∷ decimal (ranges_by index s) ∷ [])

-- the partitions of a state and its pipelines
abbrev pub state_lines : State → List ℕ
state_lines s = flat_map part_lines s.parts ++ flat_map (λ p. pipeline_line s p.0) (enumerate_from 0 s.pipelines)

-- the text for a state; where there is none, all numbers are 0 and no branch is told
unfoldable pub state_report : List ℕ → Option State → List ℕ
state_report job None = words (codes "job") (job ∷ []) ++ total_lines (empty_state 0) ++ status_line 0
state_report job (Some s) = words (codes "job") (job ∷ []) ++ state_lines s ++ total_lines s ++ status_line 0

-- ---- recover: whether a sequence was open

unfoldable pub recovery_report : List ℕ → Bool → List ℕ
recovery_report job was_open =
    words (codes "recovered") (job ∷ codes "sequence" ∷ (if was_open then codes "open" else codes "none") ∷ [])
    ++ status_line 0

-- ---- check: what each branch writes, and the keys that nothing reads

abbrev pub format_word : Format → List ℕ
format_word format.Lines = codes "lines"
format_word format.Csv = codes "csv"
format_word format.Json = codes "json"

abbrev pub kind_word : Kind → List ℕ
kind_word kind.Bool = codes "bool"
kind_word kind.Int = codes "int"
kind_word kind.Text = codes "text"

-- columns as name:kind, with commas between them
abbrev pub columns_word : List Column → List ℕ
columns_word columns = join_with_byte 44 (map (λ c. c.name ++ 58 ∷ kind_word c.kind) columns)

-- a branch with its format and the columns after its steps
abbrev pub format_line : List Column → ℕ × BranchSpec → List ℕ
format_line columns p =
    words (codes "branch") (decimal p.0 ∷ format_word p.1.format ∷ columns_word (columns_through p.1.steps columns) ∷
    [])

abbrev pub unknown_line : List ℕ → List ℕ
unknown_line key = words (codes "unknown") (escape_of key ∷ [])

-- the text for a job of this name and plan, and the keys of its file that aren't known
unfoldable pub check_report : List ℕ → Plan → List (List ℕ) → List ℕ
check_report job plan unknown =
    words (codes "job") (job ∷ codes "ok" ∷ [])
    ++ flat_map (format_line (columns_through plan.steps plan.columns)) (enumerate_from 0 plan.branches)
    ++ flat_map unknown_line unknown ++ status_line 0
