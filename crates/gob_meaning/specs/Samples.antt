-- What the tables of examples are written with.
use Rattle.std.specs.Prelude.{ℕ, ◌+◌, ◌-◌, pos, negsuc, true, false, List, [], ◌∷◌, length, codes}
use Prim.Native.String.{String}
use Rattle.gob_plan.specs.declared.rows.Kind.{Kind}
use Rattle.gob_plan.specs.declared.rows.Kind.TheVariants as kind
use Rattle.gob_plan.specs.declared.rows.Value.{Value}
use Rattle.gob_plan.specs.declared.rows.Value.TheVariants as value
use Rattle.gob_plan.specs.declared.rows.Column.{Column}
use Rattle.gob_plan.specs.declared.rows.Row.{Row}
use Rattle.gob_plan.specs.declared.checks.How.TheVariants as how
use Rattle.gob_plan.specs.declared.checks.Check.{Check}
use Rattle.gob_plan.specs.declared.checks.Check.TheVariants as check
use Rattle.gob_plan.specs.declared.checks.TestSpec.{TestSpec}
use Rattle.gob_plan.specs.declared.steps.StepSpec.{StepSpec}
use Rattle.gob_plan.specs.declared.plan.Mode.{Mode}
use Rattle.gob_plan.specs.declared.plan.Format.{Format}
use Rattle.gob_plan.specs.declared.plan.Format.TheVariants as format
use Rattle.gob_plan.specs.declared.plan.ForkHow.{ForkHow}
use Rattle.gob_plan.specs.declared.plan.ForkHow.TheVariants as fork_how
use Rattle.gob_plan.specs.declared.plan.ForkSpec.{ForkSpec}
use Rattle.gob_plan.specs.declared.plan.PlaceSpec.TheVariants as place
use Rattle.gob_plan.specs.declared.plan.PolicySpec.{PolicySpec}
use Rattle.gob_plan.specs.declared.plan.BranchSpec.{BranchSpec}
use Rattle.gob_plan.specs.declared.plan.Plan.{Plan}
use Rattle.gob_plan.specs.declared.units.Unit.{Unit as WorkUnit}
use Rattle.gob_plan.specs.declared.units.BranchCounts.{BranchCounts}
use Rattle.gob_plan.specs.declared.units.Counts.{Counts}

-- ---- values and rows

-- a text
abbrev pub text : String → Value
text s = value.Text (codes s)

-- an integer from 0 on
abbrev pub int : ℕ → Value
int n = value.Int (pos n)

-- an integer below 0
abbrev pub minus : ℕ → Value
minus n = value.Int (negsuc (n - 1))

-- true
abbrev pub yes : Value
yes = value.Bool true

-- false
abbrev pub no : Value
no = value.Bool false

-- a row of these values
abbrev pub row : List Value → Row
row values = record { values = values }

-- a column
abbrev pub column : String → Kind → Column
column name k = record { name = codes name; kind = k }

-- a column of kind text
abbrev pub text_column : String → Column
text_column name = column name kind.Text

-- a column of kind int
abbrev pub int_column : String → Column
int_column name = column name kind.Int

-- an integer and a text
abbrev pub id_name : List Column
id_name = int_column "id" ∷ text_column "name" ∷ []

-- ---- tests

-- a test of a column
abbrev pub test : String → Check → TestSpec
test name c = record { negated = false; column = codes name; check = c }

-- the same test turned round
abbrev pub negation : TestSpec → TestSpec
negation t = record t { negated = true }

-- the value equals this one
abbrev pub equals : Value → Check
equals v = check.Compare how.Eq v

-- the value is at least this one
abbrev pub at_least : Value → Check
at_least v = check.Compare how.Ge v

-- a policy
abbrev pub policy : TestSpec → Mode → PolicySpec
policy t m = record { test = t; mode = m }

-- ---- plans

-- a branch that takes these steps, asks these policies and writes a format
abbrev pub branch : List StepSpec → List PolicySpec → Format → BranchSpec
branch steps policies written = record { steps = steps; policies = policies; format = written; place = place.Plain }

-- a branch that writes whole lines
abbrev pub lines_branch : BranchSpec
lines_branch = branch [] [] format.Lines

-- a fork in branches by tests
abbrev pub fork : ForkHow → List TestSpec → List BranchSpec → ForkSpec
fork how tests branches = record { how = how; branches = length branches; tests = tests }

-- a plan that reads these columns in a format, takes these steps, and whose one branch is this
abbrev pub plan : Format → List Column → List StepSpec → BranchSpec → Plan
plan given columns steps only = record {
  format = given;
  columns = columns;
  skip_header = false;
  steps = steps;
  skip_errors = 0;
  fork = record { how = fork_how.All; branches = 1; tests = [] };
  branches = only ∷ [];
  task_policies = [];
}

-- a plan of whole lines with this branch
abbrev pub lines_plan : BranchSpec → Plan
lines_plan only = plan format.Lines (text_column "line" ∷ []) [] only

-- the same with a fork in branches
abbrev pub forked_plan : ForkHow → List TestSpec → List BranchSpec → Plan
forked_plan how tests branches = record (lines_plan lines_branch) {
  fork = fork how tests branches;
  branches = branches;
}

-- ---- units

-- a unit of this text, at this offset of its partition
abbrev pub unit_at : ℕ → List ℕ → WorkUnit
unit_at lo text = record { part = codes "p"; lo = lo; hi = lo + length text; fresh = true; listed = true }

-- records, bad ones, rows before the fork, those that no branch takes, and the branches
abbrev pub counts : ℕ → ℕ → ℕ → ℕ → List BranchCounts → Counts
counts records bads rows unrouted branches = record {
  records = records;
  bad = bads;
  rows = rows;
  unrouted = unrouted;
  branches = branches;
}

-- of a branch the rows written, those in the error file and the optional policies that failed
abbrev pub branch_of : ℕ → ℕ → ℕ → BranchCounts
branch_of written errors optional = record { written = written; errors = errors; optional = optional }
