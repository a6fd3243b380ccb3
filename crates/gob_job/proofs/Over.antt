-- Steps over columns.
use Rattle.std.proofs.Common.{◌≡◌, List, refl}
use Rattle.gob_plan.specs.declared.rows.Column.{Column}
use Rattle.gob_plan.specs.declared.checks.TestSpec.{TestSpec}
use Rattle.gob_plan.specs.declared.steps.StepSpec.{StepSpec}
use Rattle.gob_plan.specs.declared.steps.StepSpec.TheVariants as step
use Rattle.gob_jobs.specs.Elements.{accepted_step, step_over}

-- a step that is no `where` is read as it is worded
pub other_step : (columns : List Column) (s : StepSpec) → ((t : TestSpec) → s ≡ step.Where t → ⊥)
    → step_over columns s ≡ accepted_step columns s
other_step columns (step.Keep names) other = refl
other_step columns (step.Drop names) other = refl
other_step columns (step.Rename from to) other = refl
other_step columns (step.Cast name to) other = refl
other_step columns (step.Set name k v) other = refl
other_step columns (step.Copy from to) other = refl
other_step columns (step.Explode name separator) other = refl
other_step columns (step.Where t) other = absurd (other t refl)
other_step columns (step.Upper name) other = refl
other_step columns (step.Lower name) other = refl
