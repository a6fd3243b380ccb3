-- Which columns formats and places go with, and which plans fit, as tables.
use Rattle.std.specs.Prelude.{◌≡◌, Bool, true, false, List, [], ◌∷◌, map, replicate, codes}
use Rattle.std.specs.declared.option.Option.{Option}
use Rattle.std.specs.declared.option.Option.TheVariants.{None, Some}
use Rattle.gob_plan.specs.declared.rows.Kind.TheVariants as kind
use Rattle.gob_plan.specs.declared.rows.Column.{Column}
use Rattle.gob_plan.specs.declared.checks.Check.TheVariants as check
use Rattle.gob_plan.specs.declared.checks.TestSpec.{TestSpec}
use Rattle.gob_plan.specs.declared.steps.StepSpec.{StepSpec}
use Rattle.gob_plan.specs.declared.steps.StepSpec.TheVariants as step
use Rattle.gob_plan.specs.declared.steps.Refusal.{Refusal}
use Rattle.gob_plan.specs.declared.steps.Refusal.TheVariants.{NoColumn, BadKind, BadValue}
use Rattle.gob_plan.specs.declared.plan.Format.{Format}
use Rattle.gob_plan.specs.declared.plan.Format.TheVariants as format
use Rattle.gob_plan.specs.declared.plan.Mode.TheVariants as mode
use Rattle.gob_plan.specs.declared.plan.ForkHow.TheVariants as fork_how
use Rattle.gob_plan.specs.declared.plan.PlaceSpec.{PlaceSpec}
use Rattle.gob_plan.specs.declared.plan.PlaceSpec.TheVariants as place
use Rattle.gob_plan.specs.declared.plan.PolicySpec.{PolicySpec}
use Rattle.gob_plan.specs.declared.plan.Counter.TheVariants as counter
use Rattle.gob_plan.specs.declared.plan.TaskRule.TheVariants.{Range, Share}
use Rattle.gob_plan.specs.declared.plan.TaskRule.{TaskRule}
use Rattle.gob_plan.specs.declared.plan.Plan.{Plan}
use Rattle.gob_meaning.specs.Plans.{reads_columns, write_refusal, place_refusal, is_fitting}
use Rattle.gob_meaning.specs.Samples.{text, text_column, int_column, column, id_name, test, equals, policy, branch}
use Rattle.gob_meaning.specs.Samples.{lines_branch, plan, lines_plan, forked_plan}
use Rattle.gob_meaning.specs.TablesOfSteps.{many}

-- ---- formats and places

-- a format, columns, whether it reads them, and why it doesn't write them
abbrev format_table : List (Format × List Column × Bool × Option Refusal)
format_table =
    (format.Lines, text_column "line" ∷ [], true, None)
    ∷ (format.Lines, text_column "word" ∷ [], false, None)
    ∷ (format.Lines, int_column "line" ∷ [], false, Some (BadKind (codes "line")))
    ∷ (format.Lines, column "b" kind.Bool ∷ [], false, Some (BadKind (codes "b")))
    ∷ (format.Lines, text_column "line" ∷ text_column "word" ∷ [], false, Some (BadKind (codes "word")))
    ∷ (format.Lines, int_column "a" ∷ text_column "b" ∷ text_column "c" ∷ [], false, Some (BadKind (codes "b")))
    ∷ (format.Lines, [], false, Some BadValue)
    ∷ (format.Csv, id_name, true, None)
    ∷ (format.Json, id_name, true, None)
    ∷ []

-- each format goes with the columns so
abbrev pub FormatTable : Type 0
FormatTable = (map (λ r. reads_columns r.0 r.1) format_table ≡ map (λ r. r.2) format_table)
    × (map (λ r. write_refusal r.0 r.1) format_table ≡ map (λ r. r.3) format_table)

-- a place, columns, and why it doesn't go with them
abbrev place_table : List (PlaceSpec × List Column × Option Refusal)
place_table =
    (place.Plain, id_name, None)
    ∷ (place.Day (codes "id"), id_name, None)
    ∷ (place.Day (codes "name"), id_name, Some (BadKind (codes "name")))
    ∷ (place.Day (codes "b"), column "b" kind.Bool ∷ [], Some (BadKind (codes "b")))
    ∷ (place.Day (codes "zz"), id_name, Some (NoColumn (codes "zz")))
    ∷ []

-- each place goes with the columns so
abbrev pub PlaceTable : Type 0
PlaceTable = map (λ r. place_refusal r.0 r.1) place_table ≡ map (λ r. r.2) place_table

-- ---- plans

-- a plan of csv with an integer and a text that takes these steps, in one branch that does nothing
abbrev csv_plan : List StepSpec → Plan
csv_plan steps = plan format.Csv id_name steps (branch [] [] format.Csv)

-- the same with these columns
abbrev with_columns : List Column → Plan
with_columns columns = record (csv_plan []) { columns = columns }

-- a plan of csv whose one branch takes these steps and asks these policies
abbrev branch_plan : List StepSpec → List PolicySpec → Plan
branch_plan steps policies = plan format.Csv id_name [] (branch steps policies format.Csv)

-- a plan of two branches with these task rules
abbrev rules_plan : List TaskRule → Plan
rules_plan rules = record (forked_plan fork_how.All [] (lines_branch ∷ lines_branch ∷ [])) {
  task_policies = map (λ r. record { rule = r; fails = true }) rules;
}

-- a count of records
abbrev records_rule : TaskRule
records_rule = Range counter.Records 0 9

-- a step that fits
abbrev upper : StepSpec
upper = step.Upper (codes "name")

-- a policy that fits
abbrev is_name : PolicySpec
is_name = policy (test "name" (equals (text "a"))) mode.Fail

-- a test that fits whole lines
abbrev is_a : TestSpec
is_a = test "line" (equals (text "a"))

-- a plan, and whether it fits
abbrev plan_table : List (Plan × Bool)
plan_table =
    -- columns: 1 to 64 with different names, and of whole lines the one
    (csv_plan [], true)
    ∷ (with_columns [], false)
    ∷ (with_columns (text_column "a" ∷ int_column "a" ∷ []), false)
    ∷ (with_columns (many 64), true)
    ∷ (with_columns (many 65), false)
    ∷ (record (lines_plan lines_branch) { columns = text_column "word" ∷ [] }, false)
    -- steps before the fork
    ∷ (csv_plan (upper ∷ step.Drop (codes "name" ∷ []) ∷ []), true)
    ∷ (csv_plan (step.Drop (codes "name" ∷ []) ∷ upper ∷ []), false)
    ∷ (csv_plan (replicate 32 upper), true)
    ∷ (csv_plan (replicate 33 upper), false)
    -- steps, policies, format and place of a branch
    ∷ (branch_plan (replicate 32 upper) [], true)
    ∷ (branch_plan (replicate 33 upper) [], false)
    ∷ (branch_plan (step.Upper (codes "id") ∷ []) [], false)
    ∷ (branch_plan [] (replicate 16 is_name), true)
    ∷ (branch_plan [] (replicate 17 is_name), false)
    ∷ (branch_plan (step.Drop (codes "name" ∷ []) ∷ []) (is_name ∷ []), false)
    ∷ (plan format.Csv id_name [] (branch (step.Keep (codes "name" ∷ []) ∷ []) [] format.Lines), true)
    ∷ (plan format.Csv id_name [] (branch [] [] format.Lines), false)
    ∷ (plan format.Csv id_name (step.Drop (codes "id" ∷ []) ∷ []) (branch [] [] format.Lines), true)
    ∷ (plan format.Csv id_name [] (record (branch [] [] format.Csv) { place = place.Day (codes "id") }), true)
    ∷ (plan format.Csv id_name [] (record (branch [] [] format.Csv) { place = place.Day (codes "name") }), false)
    -- branches: 1 to 8, as many as the fork says
    ∷ (forked_plan fork_how.All [] [], false)
    ∷ (forked_plan fork_how.All [] (replicate 8 lines_branch), true)
    ∷ (forked_plan fork_how.All [] (replicate 9 lines_branch), false)
    ∷ (record (forked_plan fork_how.All [] (replicate 2 lines_branch)) { branches = replicate 3 lines_branch }, false)
    -- tests: none where each branch takes every row, else one for each branch
    ∷ (forked_plan fork_how.All (replicate 2 is_a) (replicate 2 lines_branch), false)
    ∷ (forked_plan fork_how.Each (replicate 2 is_a) (replicate 2 lines_branch), true)
    ∷ (forked_plan fork_how.Each (replicate 1 is_a) (replicate 2 lines_branch), false)
    ∷ (forked_plan fork_how.Each [] (replicate 2 lines_branch), false)
    ∷ (forked_plan fork_how.First (replicate 2 is_a) (replicate 2 lines_branch), true)
    ∷ (forked_plan fork_how.First (replicate 3 is_a) (replicate 2 lines_branch), false)
    ∷ (forked_plan fork_how.First [] (replicate 2 lines_branch), false)
    ∷ (forked_plan fork_how.Each (is_a ∷ test "word" check.Null ∷ []) (replicate 2 lines_branch), false)
    -- task rules: at most 16, of counters whose branch is there
    ∷ (rules_plan (replicate 16 records_rule), true)
    ∷ (rules_plan (replicate 17 records_rule), false)
    ∷ (rules_plan (Range counter.Bad 0 9 ∷ Range counter.Rows 0 9 ∷ Range counter.Unrouted 0 9 ∷ []), true)
    ∷ (rules_plan (Range (counter.Written 1) 0 9 ∷ []), true)
    ∷ (rules_plan (Range (counter.Written 2) 0 9 ∷ []), false)
    ∷ (rules_plan (Range (counter.Errors 1) 0 9 ∷ []), true)
    ∷ (rules_plan (Range (counter.Errors 2) 0 9 ∷ []), false)
    ∷ (rules_plan (Range (counter.Optional 1) 0 9 ∷ []), true)
    ∷ (rules_plan (Range (counter.Optional 2) 0 9 ∷ []), false)
    ∷ (rules_plan (Share (counter.Errors 1) counter.Records 5 ∷ []), true)
    ∷ (rules_plan (Share (counter.Errors 2) counter.Records 5 ∷ []), false)
    ∷ (rules_plan (Share counter.Records (counter.Errors 2) 5 ∷ []), false)
    ∷ []

-- each plan fits so
abbrev pub PlanTable : Type 0
PlanTable = map (λ r. is_fitting r.0) plan_table ≡ map (λ r. r.1) plan_table
