use Rattle.std.proofs.Common.{sym, subst}
use Rattle.gob_plan.specs.declared.steps.StepSpec.TheVariants as step
use Rattle.gob_plan.specs.declared.steps.StepSpec.{StepSpec}
use Rattle.gob_meaning.specs.Steps.{columns_after}
use Rattle.gob_steps.specs.Told.{TellsColumns}
use Rattle.gob_steps.proofs.columns.columns_after.Goals as goal

pub returns-in-Lower : goal.returns-in-Lower
unfolding columns_after
returns-in-Lower c =
    subst (λ (s : StepSpec). TellsColumns s c.args.columns.now c.of_text-in-Lower.result) (sym c.in-Lower.is)
    c.of_text-in-Lower.ensures
