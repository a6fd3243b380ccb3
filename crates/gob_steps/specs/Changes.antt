-- What a step makes of the value in its column.
use Rattle.std.specs.Prelude.{Option, Some}
use Rattle.std.specs.Str.{str_to_ascii_lowercase, str_to_ascii_uppercase}
use Rattle.gob_plan.specs.declared.rows.Value.{Value}
use Rattle.gob_plan.specs.declared.steps.StepSpec.{StepSpec}
use Rattle.gob_plan.specs.declared.steps.StepSpec.TheVariants as step
use Rattle.gob_meaning.specs.Values.{cast}
use Rattle.gob_meaning.specs.Steps.{on_text}

-- the steps that change one value, and the others, which leave it
abbrev pub value_change_of : StepSpec → Value → Option Value
value_change_of (step.Keep names) v = Some v
value_change_of (step.Drop names) v = Some v
value_change_of (step.Rename from to) v = Some v
value_change_of (step.Cast name to) v = cast to v
value_change_of (step.Set name k w) v = Some v
value_change_of (step.Copy from to) v = Some v
value_change_of (step.Explode name separator) v = Some v
value_change_of (step.Where test) v = Some v
value_change_of (step.Upper name) v = on_text str_to_ascii_uppercase v
value_change_of (step.Lower name) v = on_text str_to_ascii_lowercase v
