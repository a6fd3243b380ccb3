-- What is told of the columns behind a step.
use Rattle.std.specs.Prelude.{◌≡◌, List, Result, Ok, Err, IfOk, IfErr}
use Rattle.gob_plan.specs.declared.rows.Column.{Column}
use Rattle.gob_plan.specs.declared.steps.StepSpec.{StepSpec}
use Rattle.gob_plan.specs.declared.steps.Refusal.{Refusal}
use Rattle.gob_plan.specs.declared.steps.StepFault.{StepFault}
use Rattle.gob_plan.specs.declared.steps.StepFault.TheVariants.{Refused}
use Rattle.gob_meaning.specs.Steps.{columns_after}

-- they are these, or the step is refused and this is why; or no memory was left
abbrev pub TellsColumns : StepSpec → List Column → Result (List Column) StepFault → Type 0
TellsColumns spec columns result =
    IfOk result (λ after. columns_after spec columns ≡ Ok after)
    × IfErr result (λ e. (why : Refusal) → e ≡ Refused why → columns_after spec columns ≡ Err why)
