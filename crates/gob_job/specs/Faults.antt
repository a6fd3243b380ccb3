-- Results of the code, and the results that are due: the same value or the same fault, unless no memory was left.
use Rattle.std.specs.Prelude.{◌≡◌, ℕ, Bool, true, false, List}
use Rattle.std.specs.declared.option.Option.{Option}
use Rattle.std.specs.declared.option.Option.TheVariants.{None, Some}
use Rattle.std.specs.declared.result.Result.{Result}
use Rattle.std.specs.declared.result.Result.TheVariants.{Ok, Err}
use Rattle.gob_plan.specs.declared.steps.Refusal.{Refusal}
use Rattle.gob_plan.specs.declared.steps.Refusal.TheVariants as refusal
use Rattle.gob_plan.specs.declared.steps.StepFault.{StepFault}
use Rattle.gob_plan.specs.declared.steps.StepFault.TheVariants as step_fault
use Rattle.gob_jobs.specs.KeyTable as keys
use Rattle.gob_jobs.specs.Reading as reading
use Rattle.gob_job.specs.declared.faults.ValueFault.{ValueFault}
use Rattle.gob_job.specs.declared.faults.ValueFault.TheVariants as value
use Rattle.gob_job.specs.declared.faults.JobFault.{JobFault}
use Rattle.gob_job.specs.declared.faults.JobFault.TheVariants as job

-- what a step, a test or a place is refused for, as what a value is
abbrev pub value_fault : StepFault → ValueFault
value_fault (step_fault.Refused r) = value.Refused r
value_fault step_fault.Memory = value.Memory

-- a value's fault at its key
abbrev pub at_key : List ℕ → ValueFault → JobFault
at_key key (value.Refused (refusal.NoColumn column)) = job.NoColumn key column
at_key key (value.Refused (refusal.BadKind column)) = job.BadKind key column
at_key key (value.Refused refusal.BadValue) = job.BadValue key
at_key key value.BadCount = job.BadPolicyCount key
at_key key value.Memory = job.Memory

-- a step, a test or a place read, as it is due
abbrev pub TakesElement : {A B : Type 0} → (A → B) → Result A StepFault → Result B Refusal → Type 0
TakesElement seen (Ok x) due = due ≡ Ok (seen x)
TakesElement seen (Err (step_fault.Refused r)) due = due ≡ Err r
TakesElement seen (Err step_fault.Memory) due = Unit {0}

-- a value read, as it is due
abbrev pub ReadsValue : {A B : Type 0} → (A → B) → Result A ValueFault → Result B keys.ValueFault → Type 0
ReadsValue seen (Ok x) due = due ≡ Ok (seen x)
ReadsValue seen (Err (value.Refused r)) due = due ≡ Err (keys.refused r)
ReadsValue seen (Err value.BadCount) due = due ≡ Err keys.bad_count
ReadsValue seen (Err value.Memory) due = Unit {0}

-- a job read, as it is due
abbrev pub Gives : {A B : Type 0} → (A → B) → Result A JobFault → Result B reading.JobFault → Type 0
Gives seen (Ok x) due = due ≡ Ok (seen x)
Gives seen (Err (job.Missing key)) due = due ≡ Err (reading.missing key)
Gives seen (Err (job.BadValue key)) due = due ≡ Err (reading.bad_value key)
Gives seen (Err (job.BadPolicyCount key)) due = due ≡ Err (reading.bad_policy_count key)
Gives seen (Err (job.NoColumn key column)) due = due ≡ Err (reading.no_column key column)
Gives seen (Err (job.BadKind key column)) due = due ≡ Err (reading.bad_kind key column)
Gives seen (Err (job.Interpolation key)) due = due ≡ Err (reading.interpolation key)
Gives seen (Err job.Memory) due = Unit {0}

-- no memory was left
abbrev pub is_memory : JobFault → Bool
is_memory (job.Missing key) = false
is_memory (job.BadValue key) = false
is_memory (job.BadPolicyCount key) = false
is_memory (job.NoColumn key column) = false
is_memory (job.BadKind key column) = false
is_memory (job.Interpolation key) = false
is_memory job.Memory = true

-- what isn't refused, if it isn't
abbrev pub unless_some_refusal : {A : Type 0} → A → Option Refusal → Result A Refusal
unless_some_refusal x None = Ok x
unless_some_refusal x (Some why) = Err why
