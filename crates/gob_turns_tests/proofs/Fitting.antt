-- The small plans fit.
use Rattle.std.proofs.Common.{◌≡◌, true, refl}
use Rattle.gob_plan.specs.Columns.{is_columns}
use Rattle.gob_plan.specs.Tests.{test_fits}
use Rattle.gob_meaning.specs.Plans.{is_fitting}
use Rattle.gob_turns_tests.specs.declared.kinds.Lines.{Lines}
use Rattle.gob_turns_tests.specs.declared.kinds.Lines.TheVariants.{Plain, Short, Single, Numbers}
use Rattle.gob_turns_tests.specs.Plans.{plan_for}

pub fits : (l : Lines) → is_fitting (plan_for l) ≡ true
unfolding is_columns is_fitting test_fits
fits Plain = refl
fits Short = refl
fits Single = refl
fits Numbers = refl
