-- What a run makes of the state.
use Rattle.std.specs.Prelude.{ℕ, ◌+◌, Bool, true, false, if◌then◌else◌, not, nat_lt, List, [], ◌∷◌, ◌++◌, map}
use Rattle.std.specs.Prelude.{unwrap_or}
use Rattle.std.specs.declared.option.Option.{Option}
use Rattle.std.specs.declared.option.Option.TheVariants.{None, Some}
use Rattle.std.specs.List.{filter, list_all, list_any, zip, position_or_len}
use Rattle.std.specs.Str.{bytes_eq}
use Rattle.gob_bytes.specs.Tables.{with_name}
use Rattle.gob_plan.specs.declared.plan.CommitPolicy.{CommitPolicy}
use Rattle.gob_plan.specs.declared.plan.CommitPolicy.TheVariants.{Full, Successful}
use Rattle.gob_plan.specs.declared.units.Counts.{Counts}
use Rattle.gob_plan.specs.declared.units.Unit.{Unit as WorkUnit}
use Rattle.gob_meaning.specs.Fold.{saturate_u64}
use Rattle.gob_meaning.specs.Results.{Verdict, good, failed}
use Rattle.gob_ledger.specs.Marks.{Marks, Span, Done}
use Rattle.gob_meaning.specs.Sums.{sum_of}
use Rattle.gob_ledger.specs.State.{State, marks_at}
use Rattle.gob_ledger.specs.Units.{span_of, same_span}

-- the unit made something that can be committed
abbrev pub is_good : Verdict → Bool
is_good (good counts warnings) = true
is_good (failed cause) = false

-- whether the policy lets a unit with this verdict be committed
abbrev pub allows : CommitPolicy → List Verdict → Verdict → Bool
allows Full all v = list_all is_good all
allows Successful all v = is_good v

-- a unit with its verdict
abbrev pub Judged : Type 0
Judged = WorkUnit × Verdict

-- the units that the policy lets be committed
abbrev pub allowed_units : CommitPolicy → List Judged → List Judged
allowed_units policy all = filter (λ j. allows policy (map (λ k. k.1) all) j.1) all

-- into its place, by lo
abbrev pub insert_done : Done → List Done → List Done
insert_done d [] = d ∷ []
insert_done d (e ∷ es) = if nat_lt d.span.lo e.span.lo then d ∷ e ∷ es else e ∷ insert_done d es

-- the marks of a partition of which nothing was taken
abbrev pub no_marks : Marks
no_marks = record { next = 0; finished = []; owed = [] }

-- a new range is owed, and next moves to its end
abbrev pub with_owed : Span → Marks → Marks
with_owed s m = record m { next = s.hi; owed = m.owed ++ s ∷ [] }

-- an owed range is done
abbrev pub with_done : ℕ → Span → Marks → Marks
with_done pipeline s m = record m {
  finished = insert_done (record { span = s; pipeline = pipeline }) m.finished;
  owed = filter (λ o. not (same_span o s)) m.owed;
}

-- the state with the marks of one partition changed
abbrev pub change_part : (Marks → Marks) → List ℕ → State → State
change_part f part s = record s { parts = with_name s.parts part (f (unwrap_or (marks_at s part) no_marks)) }

-- a new unit's range is owed
abbrev pub add_unit : State → Judged → State
add_unit s j = if j.0.fresh then change_part (with_owed (span_of j.0)) j.0.part s else s

-- what a good unit counted
abbrev pub counts_in : Verdict → Option Counts
counts_in (good counts warnings) = Some counts
counts_in (failed cause) = None

-- the sum, where there is something to add
abbrev pub plus : Counts → Option Counts → Counts
plus a None = a
plus a (Some b) = sum_of a b

-- the unit's range is done, and what it counted is added
abbrev pub finish_unit : ℕ → State → Judged → State
finish_unit pipeline s j =
    let t = change_part (with_done pipeline (span_of j.0)) j.0.part s in
    record t { totals = plus t.totals (counts_in j.1) }

-- the pipelines with this one, at the end where it is new
abbrev pub with_pipeline : List ℕ → State → State
with_pipeline p s = if list_any (bytes_eq p) s.pipelines then s else record s { pipelines = s.pipelines ++ p ∷ [] }

-- where the pipeline stands, or will stand
abbrev pub pipeline_index : List ℕ → State → ℕ
pipeline_index p s = position_or_len (bytes_eq p) s.pipelines

-- the state after one unit after the other
abbrev pub fold_units : (State → Judged → State) → State → List Judged → State
fold_units f s [] = s
fold_units f s (j ∷ js) = fold_units f (f s j) js

-- all fresh units are added, and those that are allowed are done
abbrev pub state_with_commit : State → List ℕ → List Judged → List Judged → State
state_with_commit s pipeline all done =
    let added = fold_units add_unit (with_pipeline pipeline s) all in
    let finished = fold_units (finish_unit (pipeline_index pipeline s)) added done in
    record finished { run = saturate_u64 (s.run + 1) }

-- the same, where there is a unit to commit
abbrev pub state_with_commit_or : State → List ℕ → List Judged → List Judged → State
state_with_commit_or s pipeline all [] = s
state_with_commit_or s pipeline all (d ∷ ds) = state_with_commit s pipeline all (d ∷ ds)

-- the state after a run over these units with these verdicts; where none is allowed it stays
unfoldable pub next_state : State → List ℕ → List WorkUnit → List Verdict → CommitPolicy → State
next_state s pipeline units verdicts policy =
    let all = zip units verdicts in
    state_with_commit_or s pipeline all (allowed_units policy all)
