-- What the derived clones of a step, a branch and a plan say: it is the same.
use Rattle.std.proofs.Common.{◌≡◌, List, ℕ, rules}
use Rattle.std.specs.List.{AllZip}
use Rattle.std.proofs.lemmas.List.Elements.{same_from_all_zip}
use Rattle.gob_plan.specs.declared.checks.TestSpec.{TestSpec}
use Rattle.gob_plan.specs.declared.steps.StepSpec.{StepSpec}
use Rattle.gob_plan.specs.declared.steps.StepSpec.TheVariants as step
use Rattle.gob_plan.specs.declared.plan.PolicySpec.{PolicySpec}
use Rattle.gob_plan.specs.declared.plan.BranchSpec.{BranchSpec}
use Rattle.gob_plan.specs.declared.plan.ForkSpec.{ForkSpec}
use Rattle.gob_plan.specs.declared.plan.TaskPolicy.{TaskPolicy}
use Rattle.gob_plan.specs.declared.plan.Plan.{Plan}
use Rattle.gob_plan.specs.declared.plan.PlaceSpec.{PlaceSpec}
use Rattle.gob_plan.specs.declared.plan.PlaceSpec.TheVariants as place
use Rattle.gob_plan.specs.contracts.steps.StepSpecClone.TheImpl.{by_variants}
use Rattle.gob_plan.specs.contracts.plan.PlaceSpecClone.TheImpl.{by_variants as place_by_variants}
use Rattle.gob_plan.specs.contracts.checks.TestSpecClone.TheImpl.{is_clone-value as test_value}
use Rattle.gob_plan.specs.contracts.plan.PolicySpecClone.TheImpl.{is_clone-value as policy_value}
use Rattle.gob_plan.specs.contracts.plan.BranchSpecClone.TheImpl.{is_clone-value as branch_value}
use Rattle.gob_plan.specs.contracts.plan.ForkSpecClone.TheImpl.{is_clone-value as fork_value}
use Rattle.gob_plan.specs.contracts.plan.PlanClone.TheImpl.{is_clone-value as plan_value}

texts_copied : (texts copies : List (List ℕ)) → AllZip (λ text c. c ≡ text) texts copies → copies ≡ texts
texts_copied texts copies h = same_from_all_zip (λ text c. c ≡ text) texts copies h (λ text c e. e)

pub step_copied : (s c : StepSpec) → by_variants s c → c ≡ s
step_copied (step.Keep xs) (step.Keep ys) h = search (rules, texts_copied xs ys)
step_copied (step.Drop xs) (step.Drop ys) h = search (rules, texts_copied xs ys)
step_copied (step.Rename a b) (step.Rename x y) h = search rules
step_copied (step.Cast a b) (step.Cast x y) h = search rules
step_copied (step.Set a b d) (step.Set x y z) h = search rules
step_copied (step.Copy a b) (step.Copy x y) h = search rules
step_copied (step.Explode a b) (step.Explode x y) h = search rules
step_copied (step.Where a) (step.Where x) h = search rules
step_copied (step.Upper a) (step.Upper x) h = search rules
step_copied (step.Lower a) (step.Lower x) h = search rules
step_copied s c h = absurd h

pub steps_copied : (steps copies : List StepSpec) → AllZip by_variants steps copies → copies ≡ steps
steps_copied steps copies h = same_from_all_zip by_variants steps copies h step_copied

policy_copied : (p c : PolicySpec) → policy_value.it p c → c ≡ p
policy_copied p c h = search rules

place_copied : (p c : PlaceSpec) → place_by_variants p c → c ≡ p
place_copied place.Plain place.Plain h = search rules
place_copied (place.Day a) (place.Day b) h = search rules
place_copied p c h = absurd h

pub branch_copied : (b c : BranchSpec) → branch_value.it b c → c ≡ b
branch_copied b c h =
    let steps = steps_copied b.steps c.steps h.0 in
    let policies = same_from_all_zip policy_value.it b.policies c.policies h.1.0 policy_copied in
    let format = h.1.1.0 in
    let place = place_copied b.place c.place h.1.1.1 in
    λ i. record { steps = steps i; policies = policies i; format = format i; place = place i }

test_copied : (t c : TestSpec) → test_value.it t c → c ≡ t
test_copied t c h = search rules

fork_copied : (f c : ForkSpec) → fork_value.it f c → c ≡ f
fork_copied f c h =
    let how = h.0 in
    let branches = h.1.0 in
    let tests = same_from_all_zip test_value.it f.tests c.tests h.1.1 test_copied in
    λ i. record { how = how i; branches = branches i; tests = tests i }

task_policies_copied : (xs ys : List TaskPolicy) → AllZip (λ x y. y ≡ x) xs ys → ys ≡ xs
task_policies_copied xs ys h = same_from_all_zip (λ x y. y ≡ x) xs ys h (λ x y e. e)

pub plan_copied : (p c : Plan) → plan_value.it p c → c ≡ p
plan_copied p c h =
    let format = h.0 in
    let columns = h.1.0 in
    let skip_header = h.1.1.0 in
    let steps = steps_copied p.steps c.steps h.1.1.1.0 in
    let skip_errors = h.1.1.1.1.0 in
    let fork = fork_copied p.fork c.fork h.1.1.1.1.1.0 in
    let branches = same_from_all_zip branch_value.it p.branches c.branches h.1.1.1.1.1.1.0 branch_copied in
    let task_policies = task_policies_copied p.task_policies c.task_policies h.1.1.1.1.1.1.1 in
    λ i. record {
      format = format i;
      columns = columns i;
      skip_header = skip_header i;
      steps = steps i;
      skip_errors = skip_errors i;
      fork = fork i;
      branches = branches i;
      task_policies = task_policies i;
    }
