-- Small plans.
use Rattle.std.specs.Prelude.{true, false, List, [], ◌∷◌, codes}
use Rattle.gob_plan.specs.declared.checks.Check.TheVariants as check
use Rattle.gob_plan.specs.declared.plan.BranchSpec.{BranchSpec}
use Rattle.gob_plan.specs.declared.plan.Counter.TheVariants as counter
use Rattle.gob_plan.specs.declared.plan.ForkHow.TheVariants as fork_how
use Rattle.gob_plan.specs.declared.plan.Format.{Format}
use Rattle.gob_plan.specs.declared.plan.Format.TheVariants as format
use Rattle.gob_plan.specs.declared.plan.Mode.TheVariants as mode
use Rattle.gob_plan.specs.declared.plan.PlaceSpec.TheVariants as place
use Rattle.gob_plan.specs.declared.plan.Plan.{Plan}
use Rattle.gob_plan.specs.declared.plan.PolicySpec.{PolicySpec}
use Rattle.gob_plan.specs.declared.plan.TaskPolicy.{TaskPolicy}
use Rattle.gob_plan.specs.declared.plan.TaskRule.TheVariants as rule
use Rattle.gob_plan.specs.declared.rows.Column.{Column}
use Rattle.gob_plan.specs.declared.rows.Kind.{Kind}
use Rattle.gob_plan.specs.declared.rows.Kind.TheVariants as kind
use Rattle.gob_turns_tests.specs.declared.kinds.Lines.{Lines}
use Rattle.gob_turns_tests.specs.declared.kinds.Lines.TheVariants as lines

abbrev pub kind_for : Lines → Kind
kind_for lines.Plain = kind.Text
kind_for lines.Short = kind.Text
kind_for lines.Single = kind.Text
kind_for lines.Numbers = kind.Int

abbrev pub format_for : Lines → Format
format_for lines.Plain = format.Lines
format_for lines.Short = format.Lines
format_for lines.Single = format.Lines
format_for lines.Numbers = format.Csv

abbrev pub only_column : Kind → List Column
only_column kind = record { name = codes "line"; kind = kind } ∷ []

-- a line of more than three bytes fails the unit
abbrev pub policies_for : Lines → List PolicySpec
policies_for lines.Plain = []
policies_for lines.Short = record {
  test = record { negated = false; column = codes "line"; check = check.Bytes 0 3 };
  mode = mode.Fail;
} ∷ []
policies_for lines.Single = []
policies_for lines.Numbers = []

-- one record, or the unit fails
abbrev pub rules_for : Lines → List TaskPolicy
rules_for lines.Plain = []
rules_for lines.Short = []
rules_for lines.Single = record { rule = rule.Range counter.Records 1 1; fails = true } ∷ []
rules_for lines.Numbers = []

abbrev pub branches_for : Lines → List BranchSpec
branches_for l =
    record { steps = []; policies = policies_for l; format = format_for l; place = place.Plain } ∷ []

abbrev pub plan_for : Lines → Plan
plan_for l = record {
  format = format_for l;
  columns = only_column (kind_for l);
  skip_header = false;
  steps = [];
  skip_errors = 1;
  fork = record { how = fork_how.All; branches = 1; tests = [] };
  branches = branches_for l;
  task_policies = rules_for l;
}
