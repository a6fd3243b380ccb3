-- What a run tells: its units, what became of each, and the state that it left.
use Rattle.std.specs.Prelude.{ℕ, Bool, if◌then◌else◌, List, [], ◌∷◌, ◌++◌, map, codes}
use Rattle.std.specs.List.{flat_map, enumerate_from, list_all, zip}
use Rattle.std.specs.Fmt.{decimal}
use Rattle.gob_bytes.specs.Words.{words, numbered_line}
use Rattle.gob_bytes.specs.Escapes.{escape_of}
use Rattle.gob_plan.specs.declared.plan.CommitPolicy.{CommitPolicy}
use Rattle.gob_plan.specs.declared.plan.CommitPolicy.TheVariants.{Full, Successful}
use Rattle.gob_plan.specs.declared.units.BranchCounts.{BranchCounts}
use Rattle.gob_plan.specs.declared.units.Cause.{Cause}
use Rattle.gob_plan.specs.declared.units.Cause.TheVariants as cause
use Rattle.gob_plan.specs.declared.units.Counts.{Counts}
use Rattle.gob_plan.specs.declared.units.Unit.{Unit as WorkUnit}
use Rattle.gob_meaning.specs.Results.{Verdict, good, failed}
use Rattle.gob_ledger.specs.Marks.{Marks, Done, has}
use Rattle.gob_plan.specs.declared.plan.CommitScope.{CommitScope}
use Rattle.gob_ledger.specs.Groups.{is_committed}
use Rattle.gob_ledger.specs.Next.{Judged, is_good}
use Rattle.gob_ledger.specs.State.{State}
use Rattle.gob_texts.specs.Refusals.{status_line}

abbrev pub policy_word : CommitPolicy → List ℕ
policy_word Full = codes "full"
policy_word Successful = codes "successful"

abbrev pub job_line : List ℕ → CommitPolicy → List ℕ
job_line job policy = words (codes "job") (job ∷ codes "policy" ∷ policy_word policy ∷ [])

-- a partition that is left alone for its name
abbrev pub too_long_line : List ℕ → List ℕ
too_long_line part = words (codes "too-long") (escape_of part ∷ [])

-- counts, each with its word
abbrev pub tally : Counts → List (List ℕ)
tally c =
    codes "records" ∷ decimal c.records ∷ codes "bad" ∷ decimal c.bad ∷ codes "rows" ∷ decimal c.rows ∷ codes "unrouted"
    ∷ decimal c.unrouted ∷ []

-- a branch's number and its counts, each with its word
abbrev pub branch_tally : ℕ × BranchCounts → List (List ℕ)
branch_tally p =
    decimal p.0 ∷ codes "written" ∷ decimal p.1.written ∷ codes "errors" ∷ decimal p.1.errors ∷ codes "optional" ∷
    decimal p.1.optional ∷ []

-- why a unit failed
abbrev pub cause_words : Cause → List (List ℕ)
cause_words (cause.Kill branch policy at) = codes "kill" ∷ decimal branch ∷ decimal policy ∷ decimal at ∷ []
cause_words (cause.BadRecords at) = codes "bad-records" ∷ decimal at ∷ []
cause_words (cause.Policy index) = codes "policy" ∷ decimal index ∷ []
cause_words cause.Gone = codes "gone" ∷ []
cause_words cause.Torn = codes "torn" ∷ []
cause_words cause.Fault = codes "fault" ∷ []

-- a unit by its partition and its range, and then these words
abbrev pub unit_line : WorkUnit → List (List ℕ) → List ℕ
unit_line u others = words (codes "unit") (escape_of u.part ∷ decimal u.lo ∷ decimal u.hi ∷ others)

abbrev pub branch_lines : Counts → List ℕ
branch_lines c = flat_map (λ b. words (codes "branch") (branch_tally b)) (enumerate_from 0 c.branches)

abbrev pub warning_lines : List ℕ → List ℕ
warning_lines warnings = flat_map (λ w. numbered_line (codes "warning") (w ∷ [])) warnings

-- what became of a unit; a good one that the policy doesn't let through is held
abbrev pub unit_lines : Bool → WorkUnit → Verdict → List ℕ
unit_lines allowed u (good counts warnings) =
    unit_line u ((if allowed then codes "committed" else codes "held") ∷ tally counts) ++ branch_lines counts
    ++ warning_lines warnings
unit_lines allowed u (failed why) = unit_line u (codes "failed" ∷ cause_words why)

-- the units in order, each as it was committed or not
abbrev pub units_lines : List Judged → List Bool → List ℕ
units_lines all committed = flat_map (λ e. unit_lines e.1 e.0.0 e.0.1) (zip all committed)

-- which of the units a run commits: each is judged in its group, by the commit policy
abbrev pub commits_of : CommitScope → CommitPolicy → List Judged → List Bool
commits_of scope policy all = map (is_committed scope policy all) all

-- up to where the done ranges follow each other from here
abbrev pub reached_offset : ℕ → List Done → ℕ
reached_offset at [] = at
reached_offset at (d ∷ ds) = if has at d.span then reached_offset d.span.hi ds else reached_offset at ds

-- the least offset that is in no done range
abbrev pub watermark_of : Marks → ℕ
watermark_of m = reached_offset 0 m.finished

abbrev pub mark_line : List ℕ × Marks → List ℕ
mark_line e = words (codes "mark") (escape_of e.0 ∷ decimal (watermark_of e.1) ∷ decimal e.1.next ∷ [])

-- what all units made, in all and in each branch
abbrev pub count_lines : Counts → List ℕ
count_lines c = words (codes "total") (tally c) ++ flat_map (λ b.
    words (codes "total") (codes "branch" ∷ branch_tally b)) (enumerate_from 0 c.branches)

-- what the state says in all
abbrev pub total_lines : State → List ℕ
total_lines s = count_lines s.totals ++ numbered_line (codes "runs") (s.run ∷ [])

-- 0 where every unit is good, else 1
abbrev pub run_status : List Verdict → ℕ
run_status verdicts = if list_all is_good verdicts then 0 else 1

-- a run's text: the job, the names that are left alone, the units and which of them were committed,
-- the marks and totals of the state after it, and the status
unfoldable pub report_of : List ℕ → CommitPolicy → List (List ℕ) → List Judged → List Bool → State → List ℕ
report_of job policy too_long all committed after =
    job_line job policy ++ flat_map too_long_line too_long ++ units_lines all committed
    ++ flat_map mark_line after.parts ++ total_lines after ++ status_line (run_status (map (λ j. j.1) all))
