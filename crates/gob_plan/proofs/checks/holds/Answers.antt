use Rattle.std.proofs.Common.{◌≡◌, Bool, true, false, cond, not, refl, ap, ◌∙◌}
use mathlib.Core.Bool.{beq}
use Rattle.gob_plan.specs.Tests.{check_holds, test_holds}
use Rattle.gob_plan.proofs.checks.holds.Goals as goal

turned : (holds negated : Bool) → not (beq holds negated) ≡ cond negated (not holds) holds
turned true true = refl
turned true false = refl
turned false true = refl
turned false false = refl

pub returns : goal.returns
unfolding test_holds
returns c =
    let holds = c.holds.ensures ∙ ap (check_holds c.args.test.now.check) c.value_tested.ensures in
    turned c.holds.result c.args.test.now.negated ∙ ap (λ h. cond c.args.test.now.negated (not h) h) holds
