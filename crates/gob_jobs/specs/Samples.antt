-- What the tables and examples of this crate share.
use Prim.Native.String.{String}
use Rattle.std.specs.Prelude.{◌≡◌, ℕ, Bool, true, false, List, [], ◌∷◌, ◌++◌, map, codes}
use Rattle.std.specs.declared.option.Option.{Option}
use Rattle.std.specs.declared.option.Option.TheVariants.{None, Some}
use Rattle.std.specs.declared.result.Result.{Result}
use Rattle.std.specs.declared.result.Result.TheVariants.{Ok, Err}
use Rattle.std.specs.Option.{option_and_then}
use Rattle.std.specs.Result.{result_ok, result_err}
use Rattle.gob_bytes.specs.Tables.{Table}
use Rattle.gob_plan.specs.declared.rows.Kind.{Kind}
use Rattle.gob_plan.specs.declared.rows.Kind.TheVariants as kind
use Rattle.gob_plan.specs.declared.rows.Column.{Column}
use Rattle.gob_plan.specs.declared.checks.Check.{Check}
use Rattle.gob_plan.specs.declared.checks.TestSpec.{TestSpec}
use Rattle.gob_plan.specs.declared.plan.Plan.{Plan}
use Rattle.gob_meaning.specs.Job.{Job}
use Rattle.gob_meaning.specs.Samples.{column}
use Rattle.gob_jobs.specs.Reading.{JobFault, job_of, job_in_file}

-- each text of a table reads as the table says
abbrev pub AllRead : {X : Type 0} → (List ℕ → X) → List (String × X) → Type 0
AllRead read table = map (λ e. read (codes e.0)) table ≡ map (λ e. e.1) table

-- the same of other things than texts
abbrev pub AllAre : {A X : Type 0} → (A → X) → List (A × X) → Type 0
AllAre f table = map (λ e. f e.0) table ≡ map (λ e. e.1) table

-- a column of each kind: `b`, `i` and `t`
abbrev pub one_of_each : List Column
one_of_each = column "b" kind.Bool ∷ column "i" kind.Int ∷ column "t" kind.Text ∷ []

-- a test of a column
abbrev pub column_test : Bool → String → Check → TestSpec
column_test negated name c = record { negated = negated; column = codes name; check = c }

-- the fault of a job file, if it has one
abbrev pub fault_in : List ℕ → Option JobFault
fault_in file = option_and_then (λ (job : Result Job JobFault). result_err job)
    (result_ok (job_in_file (codes "j") file))

-- the plan of a job file, if it has one
abbrev pub plan_in : List ℕ → Option Plan
plan_in file = option_and_then (λ (job : Result Job JobFault).
    option_and_then (λ (j : Job). Some j.plan) (result_ok job)) (result_ok (job_in_file (codes "j") file))

-- a key and its value
abbrev pub key_value : String → String → List ℕ × List ℕ
key_value key value = (codes key, codes value)

-- the fault of these keys and values, if they have one
abbrev pub job_fault_of : Table (List ℕ) → Option JobFault
job_fault_of entries = result_err (job_of (codes "j") entries)
