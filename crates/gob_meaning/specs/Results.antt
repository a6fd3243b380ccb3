-- What becomes of a unit.
use Rattle.std.specs.Prelude.{ℕ, ◌*◌, Bool, if◌then◌else◌, not, ◌&&◌, nat_le, List, [], ◌∷◌, map, filter}
use Rattle.std.specs.declared.option.Option.{Option}
use Rattle.std.specs.declared.option.Option.TheVariants.{None, Some}
use Rattle.std.specs.Option.{option_map, unwrap_or}
use Rattle.std.specs.List.{slice_get, enumerate_from}
use Rattle.gob_bytes.specs.Lines.{ends_in_lf}
use Rattle.gob_plan.specs.declared.plan.Counter.{Counter}
use Rattle.gob_plan.specs.declared.plan.Counter.TheVariants as counter
use Rattle.gob_plan.specs.declared.plan.TaskRule.{TaskRule}
use Rattle.gob_plan.specs.declared.plan.TaskRule.TheVariants.{Range, Share}
use Rattle.gob_plan.specs.declared.plan.TaskPolicy.{TaskPolicy}
use Rattle.gob_plan.specs.declared.plan.Plan.{Plan}
use Rattle.gob_plan.specs.declared.units.BranchCounts.{BranchCounts}
use Rattle.gob_plan.specs.declared.units.Counts.{Counts}
use Rattle.gob_plan.specs.declared.units.Unit.{Unit as WorkUnit}
use Rattle.gob_plan.specs.declared.units.Cause.{Cause}
use Rattle.gob_plan.specs.declared.units.Cause.TheVariants.{Policy, Gone, Torn}
use Rattle.gob_meaning.specs.Fold.{unit_fold, counts_of, stop_of}

-- a result without the files that it staged
pub data Verdict : Type 0 where
  good : (counts : Counts) (warnings : List ℕ) → Verdict
  failed : Cause → Verdict

-- one of a branch's counts, 0 for a branch that isn't there
abbrev pub branch_count : (BranchCounts → ℕ) → ℕ → Counts → ℕ
branch_count f b counts = unwrap_or (option_map f (slice_get counts.branches b)) 0

-- the count that a counter names
abbrev pub count_of : Counter → Counts → ℕ
count_of counter.Records c = c.records
count_of counter.Bad c = c.bad
count_of counter.Rows c = c.rows
count_of counter.Unrouted c = c.unrouted
count_of (counter.Written b) c = branch_count (λ x. x.written) b c
count_of (counter.Errors b) c = branch_count (λ x. x.errors) b c
count_of (counter.Optional b) c = branch_count (λ x. x.optional) b c

-- a count is within a range, or at most so many thousandths of another
abbrev pub rule_holds : TaskRule → Counts → Bool
rule_holds (Range c low high) n = nat_le low (count_of c n) && nat_le (count_of c n) high
rule_holds (Share c of permille) n = nat_le (count_of c n * 1000) (count_of of n * permille)

-- the policy fails the unit
abbrev pub fails_task : TaskPolicy → Counts → Bool
fails_task p n = p.fails && not (rule_holds p.rule n)

-- the policy fails and only warns
abbrev pub warns_task : TaskPolicy → Counts → Bool
warns_task p n = not p.fails && not (rule_holds p.rule n)

-- the index of the first policy that fails the unit
abbrev pub first_failing : List (ℕ × TaskPolicy) → Counts → Option ℕ
first_failing [] n = None
first_failing (p ∷ ps) n = if fails_task p.1 n then Some p.0 else first_failing ps n

-- the indices of the policies that warn
unfoldable pub warnings_of : List TaskPolicy → Counts → List ℕ
warnings_of policies n = map (λ p. p.0) (filter (λ p. warns_task p.1 n) (enumerate_from 0 policies))

-- a failing policy fails the unit, and else it is good with its warnings
abbrev pub verdict_by_policies : Plan → Counts → Option ℕ → Verdict
verdict_by_policies plan n (Some index) = failed (Policy index)
verdict_by_policies plan n None = good n (warnings_of plan.task_policies n)

-- a unit that isn't stopped must end in a line feed, and then its counts are judged
abbrev pub unless_stopped : Plan → ℕ → List ℕ → Option Cause → Verdict
unless_stopped plan lo bytes (Some cause) = failed cause
unless_stopped plan lo bytes None =
    let n = counts_of plan (unit_fold plan lo bytes) in
    if ends_in_lf bytes then verdict_by_policies plan n (first_failing (enumerate_from 0 plan.task_policies) n)
    else failed Torn

-- the result of a unit whose bytes these are
unfoldable pub verdict_of : Plan → WorkUnit → List ℕ → Verdict
verdict_of plan unit bytes =
    if unit.listed then unless_stopped plan unit.lo bytes (stop_of plan (unit_fold plan unit.lo bytes))
    else failed Gone
