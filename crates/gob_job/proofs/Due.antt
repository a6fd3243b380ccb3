-- A fault that is due stays due where it is handed on.
use Rattle.std.proofs.Common.{◌≡◌, ℕ, false, List, None, Result, Err, sym, ap}
use Rattle.std.proofs.Common.{subst}
use Rattle.std.specs.Result.{result_ok, IsErrAnd}
use Rattle.gob_props.proofs.EntryLemmas.{err_is}
use Rattle.std.proofs.lemmas.Bool.{true≢false}
use Rattle.gob_plan.specs.declared.steps.Refusal.{Refusal}
use Rattle.gob_plan.specs.declared.steps.Refusal.TheVariants as refusal
use Rattle.gob_plan.specs.declared.steps.StepFault.{StepFault}
use Rattle.gob_plan.specs.declared.steps.StepFault.TheVariants as step_fault
use Rattle.gob_jobs.specs.Words.{and_then, value_map, fault_map}
use Rattle.gob_jobs.specs.KeyTable as keys
use Rattle.gob_jobs.specs.Reading as reading
use Rattle.gob_job.specs.declared.faults.ValueFault.{ValueFault}
use Rattle.gob_job.specs.declared.faults.ValueFault.TheVariants as value
use Rattle.gob_job.specs.declared.faults.JobFault.{JobFault}
use Rattle.gob_job.specs.declared.faults.JobFault.TheVariants as job
use Rattle.gob_job.specs.Faults.{is_memory, value_fault, at_key, TakesElement, ReadsValue, Gives}

-- ---- of a step, a test or a place

pub takes_then : {A B C D : Type 0} (s : A → C) (t : B → D) (f : C → Result D Refusal) (e : StepFault)
    (due : Result C Refusal) → TakesElement s (Err e) due → TakesElement t (Err e) (and_then f due)
takes_then s t f (step_fault.Refused r) due is = ap (and_then f) is
takes_then s t f step_fault.Memory due is = tt

pub takes_map : {A B C D : Type 0} (s : A → C) (t : B → D) (f : C → D) (e : StepFault) (due : Result C Refusal)
    → TakesElement s (Err e) due → TakesElement t (Err e) (value_map f due)
takes_map s t f (step_fault.Refused r) due is = ap (value_map f) is
takes_map s t f step_fault.Memory due is = tt

-- the same fault of another reading
pub takes_same : {A B C D : Type 0} (s : A → C) (t : B → D) (e : StepFault) (due : Result C Refusal)
    (other : Result D Refusal)
    → ((r : Refusal) → due ≡ Err r → other ≡ Err r) → TakesElement s (Err e) due → TakesElement t (Err e) other
takes_same s t (step_fault.Refused r) due other f is = f r is
takes_same s t step_fault.Memory due other f is = tt

-- ---- of a value

pub takes_reads : {A B C : Type 0} (s : A → C) (t : B → C) (e : StepFault) (due : Result C Refusal)
    → TakesElement s (Err e) due → ReadsValue t (Err (value_fault e)) (fault_map keys.refused due)
takes_reads s t (step_fault.Refused r) due is = ap (fault_map keys.refused) is
takes_reads s t step_fault.Memory due is = tt

pub reads_then : {A B C D : Type 0} (s : A → C) (t : B → D) (f : C → Result D keys.ValueFault) (e : ValueFault)
    (due : Result C keys.ValueFault) → ReadsValue s (Err e) due → ReadsValue t (Err e) (and_then f due)
reads_then s t f (value.Refused r) due is = ap (and_then f) is
reads_then s t f value.BadCount due is = ap (and_then f) is
reads_then s t f value.Memory due is = tt

pub reads_map : {A B C D : Type 0} (s : A → C) (t : B → D) (f : C → D) (e : ValueFault) (due : Result C keys.ValueFault)
    → ReadsValue s (Err e) due → ReadsValue t (Err e) (value_map f due)
reads_map s t f (value.Refused r) due is = ap (value_map f) is
reads_map s t f value.BadCount due is = ap (value_map f) is
reads_map s t f value.Memory due is = tt

-- ---- of a key

pub reads_gives : {A B C : Type 0} (s : A → C) (t : B → C) (key : List ℕ) (e : ValueFault)
    (due : Result C keys.ValueFault) → ReadsValue s (Err e) due
    → Gives t (Err (at_key key e)) (fault_map (reading.fault_at key) due)
reads_gives s t key (value.Refused (refusal.NoColumn column)) due is = ap (fault_map (reading.fault_at key)) is
reads_gives s t key (value.Refused (refusal.BadKind column)) due is = ap (fault_map (reading.fault_at key)) is
reads_gives s t key (value.Refused refusal.BadValue) due is = ap (fault_map (reading.fault_at key)) is
reads_gives s t key value.BadCount due is = ap (fault_map (reading.fault_at key)) is
reads_gives s t key value.Memory due is = tt

-- whatever is done with the value, a fault of it stays
pub gives_same : {A B C D : Type 0} (s : A → C) (t : B → D) (e : JobFault) (due : Result C reading.JobFault)
    (other : Result D reading.JobFault)
    → ((f : reading.JobFault) → due ≡ Err f → other ≡ Err f) → Gives s (Err e) due → Gives t (Err e) other
gives_same s t (job.Missing key) due other f is = f (reading.missing key) is
gives_same s t (job.BadValue key) due other f is = f (reading.bad_value key) is
gives_same s t (job.BadPolicyCount key) due other f is = f (reading.bad_policy_count key) is
gives_same s t (job.NoColumn key column) due other f is = f (reading.no_column key column) is
gives_same s t (job.BadKind key column) due other f is = f (reading.bad_kind key column) is
gives_same s t (job.Interpolation key) due other f is = f (reading.interpolation key) is
gives_same s t job.Memory due other f is = tt

pub gives_then : {A B C D : Type 0} (s : A → C) (t : B → D) (g : C → Result D reading.JobFault) (e : JobFault)
    (due : Result C reading.JobFault) → Gives s (Err e) due → Gives t (Err e) (and_then g due)
gives_then s t g e due is = gives_same s t e due (and_then g due) (λ f same. ap (and_then g) same) is

pub gives_map : {A B C D : Type 0} (s : A → C) (t : B → D) (g : C → D) (e : JobFault) (due : Result C reading.JobFault)
    → Gives s (Err e) due → Gives t (Err e) (value_map g due)
gives_map s t g e due is = gives_same s t e due (value_map g due) (λ f same. ap (value_map g) same) is

-- a fault but want of memory leaves no value
pub gives_none : {A C : Type 0} (s : A → C) (e : JobFault) (due : Result C reading.JobFault) → is_memory e ≡ false
    → Gives s (Err e) due → result_ok due ≡ None
gives_none s (job.Missing key) due other is = ap result_ok is
gives_none s (job.BadValue key) due other is = ap result_ok is
gives_none s (job.BadPolicyCount key) due other is = ap result_ok is
gives_none s (job.NoColumn key column) due other is = ap result_ok is
gives_none s (job.BadKind key column) due other is = ap result_ok is
gives_none s (job.Interpolation key) due other is = ap result_ok is
gives_none s job.Memory due other is = absurd (true≢false other)

-- ---- the exit of a `?`

pub takes_handed : {A B : Type 0} (t : A → B) (r : Result A StepFault) (e : StepFault) (due : Result B Refusal)
    → IsErrAnd r (λ y. y ≡ e) → TakesElement t (Err e) due → TakesElement t r due
takes_handed t r e due handed is = subst (λ x. TakesElement t x due) (sym (err_is r e handed)) is

pub reads_handed : {A B : Type 0} (t : A → B) (r : Result A ValueFault) (e : ValueFault)
    (due : Result B keys.ValueFault) → IsErrAnd r (λ y. y ≡ e) → ReadsValue t (Err e) due → ReadsValue t r due
reads_handed t r e due handed is = subst (λ x. ReadsValue t x due) (sym (err_is r e handed)) is

pub gives_handed : {A B : Type 0} (t : A → B) (r : Result A JobFault) (e : JobFault) (due : Result B reading.JobFault)
    → IsErrAnd r (λ y. y ≡ e) → Gives t (Err e) due → Gives t r due
gives_handed t r e due handed is = subst (λ x. Gives t x due) (sym (err_is r e handed)) is
