-- Worked tables: what a commit makes of marks, states and totals, and the groups that are committed together.
use Rattle.std.specs.Prelude.{◌≡◌, ℕ, ◌^◌, ◌-◌, Bool, true, false, List, [], ◌∷◌, map, codes}
use Rattle.std.specs.declared.option.Option.TheVariants.{None, Some}
use Rattle.gob_device.specs.Supply.{Held}
use Rattle.gob_plan.specs.declared.plan.CommitPolicy.{CommitPolicy}
use Rattle.gob_plan.specs.declared.plan.CommitPolicy.TheVariants.{Full, Successful}
use Rattle.gob_plan.specs.declared.plan.CommitScope.{CommitScope}
use Rattle.gob_plan.specs.declared.plan.CommitScope.TheVariants as scope
use Rattle.gob_plan.specs.declared.units.BranchCounts.{BranchCounts}
use Rattle.gob_plan.specs.declared.units.Cause.TheVariants.{Kill, Gone}
use Rattle.gob_plan.specs.declared.units.Counts.{Counts}
use Rattle.gob_plan.specs.declared.units.Unit.{Unit as WorkUnit}
use Rattle.gob_meaning.specs.Job.{plain_pipeline}
use Rattle.gob_meaning.specs.Results.{Verdict, failed}
use Rattle.gob_ledger.specs.Marks.{Done, Marks}
use Rattle.gob_ledger.specs.State.{State, empty_state, marks_at}
use Rattle.gob_ledger.specs.Units.{units_of}
use Rattle.gob_ledger.specs.Next.{Judged, add_unit, allowed_units, allows, counts_in, finish_unit}
use Rattle.gob_ledger.specs.Next.{insert_done}
use Rattle.gob_ledger.specs.Next.{is_good, next_state, no_marks, pipeline_index, plus, with_done, with_owed}
use Rattle.gob_ledger.specs.Next.{with_pipeline}
use Rattle.gob_ledger.specs.Groups.{before_slash, dataset_of, group_of, groups_of, is_committed}
use Rattle.gob_ledger.specs.Totals.{branch_at, counted_in, counts_where, sum_counts}
use Rattle.gob_ledger.specs.Spelling.{Proper}
use Rattle.gob_ledger.specs.Examples.{after_a_kill, range_done, fresh, job, kill_marks, killed_unit, lines_written}
use Rattle.gob_ledger.specs.Examples.{nothing_yet}
use Rattle.gob_ledger.specs.Examples.{of_part, plain_state, span, two_lines, with_a_kill}
use Rattle.gob_ledger.specs.WorkedRuns.{good_lines, json_pipeline, taken_marks, third_by}

-- no row of a branch
abbrev pub no_rows : BranchCounts
no_rows = record { written = 0; errors = 0; optional = 0 }

-- nothing counted
abbrev pub nothing_counted : List BranchCounts → Counts
nothing_counted branches = record { records = 0; bad = 0; rows = 0; unrouted = 0; branches = branches }

-- a done range of another pipeline
abbrev pub done_by : ℕ → ℕ → ℕ → Done
done_by lo hi index = record { span = span lo hi; pipeline = index }

-- a unit of two bytes with its verdict
abbrev pub judged_unit : List ℕ → Verdict → Judged
judged_unit part v = (fresh part 0 2, v)

-- the last run number
abbrev pub last : ℕ
last = 2 ^ 64 - 1

-- two good units and one that fails, of two datasets
abbrev pub three_judged : List Judged
three_judged = judged_unit (codes "b/x") (good_lines 1) ∷ judged_unit (codes "a/x") (failed (Kill 0 0 0))
    ∷ judged_unit (codes "b/y") (good_lines 1) ∷ []

-- for each of these units, whether it is committed
abbrev pub commit_flags : CommitScope → CommitPolicy → List Bool
commit_flags s policy = map (is_committed s policy three_judged) three_judged

-- the units of a group
abbrev pub its_units : List Judged → List WorkUnit
its_units js = map (λ j. j.0) js

-- the verdicts of a group
abbrev pub its_verdicts : List Judged → List Verdict
its_verdicts js = map (λ j. j.1) js

-- the states after no group, after one, and so on
abbrev pub chain : CommitPolicy → State → List (List Judged) → List State
chain policy s [] = s ∷ []
chain policy s (g ∷ gs) = s ∷ chain policy (next_state s plain_pipeline (its_units g) (its_verdicts g) policy) gs

-- all of two bytes is done
abbrev pub two_bytes : Marks
two_bytes = taken_marks 2 (range_done 0 2 ∷ []) []

-- a state of these partitions, after so many commits of a line each
abbrev pub after_commits : ℕ → List (List ℕ) → State
after_commits run parts = record plain_state {
  run = run;
  totals = lines_written run;
  parts = map (λ p. (p, two_bytes)) parts;
}

-- the logs of three servers, a dataset each
abbrev pub three_servers : Held
three_servers = (codes "web1/c", codes "x\n") ∷ (codes "web2/c", codes "x\n") ∷ (codes "web3/c", codes "x\n") ∷ []

-- a new line of each of them
abbrev pub servers_judged : List Judged
servers_judged = judged_unit (codes "web1/c") (good_lines 1) ∷ judged_unit (codes "web2/c") (good_lines 1)
    ∷ judged_unit (codes "web3/c") (good_lines 1) ∷ []

-- the state after a commit of these
abbrev pub next_of_servers : State → State
next_of_servers s = next_state s plain_pipeline (its_units servers_judged) (its_verdicts servers_judged) Full

-- the line that was killed is done too
abbrev pub three_done : State
three_done = record after_a_kill {
  totals = lines_written 3;
  parts = (codes "a.log", taken_marks 6 (range_done 0 2 ∷ range_done 2 4 ∷ range_done 4 6 ∷ []) []) ∷ [];
}

-- one partition's ranges before and after a commit
pub record WorkedMarks : Type 0 where
  pub owed : with_owed (span 6 8) kill_marks ≡ taken_marks 8 (range_done 0 2 ∷ range_done 4 6 ∷ [])
      ((2, 4) ∷ (6, 8) ∷ [])
  pub first_owed : with_owed (span 0 3) no_marks ≡ taken_marks 3 [] ((0, 3) ∷ [])
  pub finished : with_done 1 (span 2 4) kill_marks ≡ taken_marks 6
      (range_done 0 2 ∷ done_by 2 4 1 ∷ range_done 4 6 ∷ []) []
  pub inserted : map (λ lo. map (λ d. d.span) (insert_done (range_done lo 9) (range_done 2 3 ∷ range_done 6 7 ∷ [])))
      (0 ∷ 2 ∷ 4 ∷ 6 ∷ 8 ∷ [])
      ≡ (span 0 9 ∷ span 2 3 ∷ span 6 7 ∷ []) ∷ (span 2 3 ∷ span 2 9 ∷ span 6 7 ∷ [])
      ∷ (span 2 3 ∷ span 4 9 ∷ span 6 7 ∷ [])
      ∷ (span 2 3 ∷ span 6 7 ∷ span 6 9 ∷ []) ∷ (span 2 3 ∷ span 6 7 ∷ span 8 9 ∷ []) ∷ []

-- what a policy allows, of all good verdicts and of some
pub record WorkedPolicies : Type 0 where
  pub goods : map is_good (good_lines 1 ∷ failed Gone ∷ []) ≡ true ∷ false ∷ []
  pub all_good : map (λ p. allows p (good_lines 1 ∷ good_lines 2 ∷ []) (good_lines 1)) (Full ∷ Successful ∷ [])
      ≡ true ∷ true ∷ []
  pub one_fails : map (λ p. allows p (good_lines 1 ∷ failed Gone ∷ []) (good_lines 1)) (Full ∷ Successful ∷ [])
      ≡ false ∷ true ∷ []
  pub the_failed : map (λ p. allows p (good_lines 1 ∷ failed Gone ∷ []) (failed Gone)) (Full ∷ Successful ∷ [])
      ≡ false ∷ false ∷ []
  pub allowed : map (λ p. its_units (allowed_units p three_judged)) (Full ∷ Successful ∷ [])
      ≡ [] ∷ (fresh (codes "b/x") 0 2 ∷ fresh (codes "b/y") 0 2 ∷ []) ∷ []
  pub counted : map counts_in (good_lines 2 ∷ failed Gone ∷ []) ≡ Some (lines_written 2) ∷ None ∷ []
  pub by_scope : map (commit_flags scope.Dataset) (Full ∷ Successful ∷ [])
      ≡ (true ∷ false ∷ true ∷ []) ∷ (true ∷ false ∷ true ∷ []) ∷ []
  pub by_job : map (commit_flags scope.Job) (Full ∷ Successful ∷ [])
      ≡ (false ∷ false ∷ false ∷ []) ∷ (true ∷ false ∷ true ∷ []) ∷ []

-- states and their totals
pub record WorkedTotals : Type 0 where
  pub empty : empty_state 2
      ≡ record { run = 0; pipelines = []; totals = nothing_counted (no_rows ∷ no_rows ∷ []); parts = [] }
  pub proper : Proper (empty_state 1) × Proper (empty_state 8)
  pub known : map (marks_at after_a_kill) (codes "a.log" ∷ codes "b" ∷ []) ≡ Some kill_marks ∷ None ∷ []
  pub new_pipeline : map (λ p. (with_pipeline p plain_state).pipelines) (plain_pipeline ∷ json_pipeline ∷ [])
      ≡ (plain_pipeline ∷ []) ∷ (plain_pipeline ∷ json_pipeline ∷ []) ∷ []
  pub indices : map (λ p. pipeline_index p plain_state) (plain_pipeline ∷ json_pipeline ∷ []) ≡ 0 ∷ 1 ∷ []
  pub sums : map (plus (lines_written 2)) (Some (lines_written 3) ∷ None ∷ []) ≡ lines_written 5 ∷ lines_written 2 ∷ []
  pub all_sums : map sum_counts ((lines_written 2 ∷ lines_written 3 ∷ []) ∷ [] ∷ [])
      ≡ lines_written 5 ∷ nothing_counted [] ∷ []
  pub counted : counted_in after_a_kill with_a_kill ≡ lines_written 2
  pub counted_by_two : counted_in (third_by 1 (plain_pipeline ∷ json_pipeline ∷ []))
      ((codes "a.log", codes "x\ny\nz\n") ∷ [])
      ≡ lines_written 2
  pub no_plan : counts_where None two_lines (codes "a.log") (span 0 2) ≡ nothing_counted []
  pub of_branches : map (branch_at (lines_written 2)) (0 ∷ 1 ∷ [])
      ≡ record { written = 2; errors = 0; optional = 0 } ∷ no_rows ∷ []
  pub old_unit : add_unit after_a_kill (killed_unit, failed Gone) ≡ after_a_kill
  pub old_unit_done : finish_unit 0 after_a_kill (killed_unit, good_lines 1) ≡ three_done
  pub last_run : map (λ n. (next_of_servers (record nothing_yet { run = n })).run) (7 ∷ last ∷ []) ≡ 8 ∷ last ∷ []

-- the groups of a run, and the state after each
pub record WorkedGroups : Type 0 where
  pub slashes : map before_slash (codes "web1/a/b" ∷ codes "x" ∷ codes "/x" ∷ [] ∷ [])
      ≡ Some (codes "web1") ∷ None ∷ Some [] ∷ None ∷ []
  pub datasets : map dataset_of (codes "web1/a/b" ∷ codes "x" ∷ codes "/x" ∷ []) ≡ codes "web1" ∷ [] ∷ [] ∷ []
  pub in_byte_order : groups_of scope.Dataset
      (of_part (codes "b/x") ∷ of_part (codes "x") ∷ of_part (codes "a/x") ∷ of_part (codes "b/y") ∷ [])
      ≡ (of_part (codes "x") ∷ []) ∷ (of_part (codes "a/x") ∷ [])
      ∷ (of_part (codes "b/x") ∷ of_part (codes "b/y") ∷ []) ∷ []
  pub no_unit : map (λ s. groups_of s []) (scope.Dataset ∷ scope.Job ∷ []) ≡ [] ∷ ([] ∷ []) ∷ []
  pub whole_job : groups_of scope.Job three_judged ≡ three_judged ∷ []
  pub its_group : map (λ s. its_units (group_of s three_judged (judged_unit (codes "b/x") (good_lines 1))))
      (scope.Dataset ∷ scope.Job ∷ [])
      ≡ (fresh (codes "b/x") 0 2 ∷ fresh (codes "b/y") 0 2 ∷ []) ∷ its_units three_judged ∷ []
  pub one_dataset_fails : chain Full nothing_yet
      (groups_of scope.Dataset (judged_unit (codes "a/x") (failed (Kill 0 0 0)) ∷ judged_unit (codes "b/x")
      (good_lines 1) ∷ []))
      ≡ nothing_yet ∷ nothing_yet ∷ after_commits 1 (codes "b/x" ∷ []) ∷ []
  pub each_dataset : chain Successful nothing_yet (groups_of scope.Dataset servers_judged)
      ≡ nothing_yet ∷ after_commits 1 (codes "web1/c" ∷ []) ∷ after_commits 2 (codes "web1/c" ∷ codes "web2/c" ∷ [])
      ∷ after_commits 3 (codes "web1/c" ∷ codes "web2/c" ∷ codes "web3/c" ∷ []) ∷ []
  pub the_rest_waits : units_of (after_commits 2 (codes "web1/c" ∷ codes "web2/c" ∷ [])) three_servers job.limits
      ≡ fresh (codes "web3/c") 0 2 ∷ []

-- all tables of states and groups
pub record WorkedStates : Type 0 where
  pub of_marks : WorkedMarks
  pub of_policies : WorkedPolicies
  pub of_totals : WorkedTotals
  pub of_groups : WorkedGroups
