use Rattle.gob_pipeline.proofs.Making.{branches_fit, branches_short, columns_sent, few_branches, few_steps, set_up}
use Rattle.gob_pipeline.proofs.Making.{steps_accepted, tests_fit}
use Rattle.gob_pipeline.proofs.pipeline.Pipeline.new.Goals as goal

pub new-requires : goal.new-requires
new-requires c = (set_up c.args.plan.now c.requires).writes

pub new-requires-2-clause-few : goal.new-requires-2-clause-few
new-requires-2-clause-few c = few_steps c.in_ok-steps.field-0 c.args.plan.now c.in_ok-steps.ensures c.requires

pub new-requires-2-clause-fit : goal.new-requires-2-clause-fit
new-requires-2-clause-fit c = steps_accepted c.in_ok-steps.field-0 c.args.plan.now c.in_ok-steps.ensures c.requires

pub new-requires-3-clause-tests : goal.new-requires-3-clause-tests
new-requires-3-clause-tests c =
    tests_fit c.args.plan.now c.after.result.now c.requires
    (columns_sent c.in_ok-steps.field-0 c.args.plan.now c.in_ok-chain.chain c.after.result.now c.in_ok-steps.ensures
    c.after.ensures c.in_ok-chain.ensures)

pub new-requires-3-clause-few : goal.new-requires-3-clause-few
new-requires-3-clause-few c = few_branches c.args.plan.now c.as_slice.result.now c.requires c.as_slice.ensures

pub new-requires-3-clause-fit : goal.new-requires-3-clause-fit
new-requires-3-clause-fit c =
    branches_fit c.args.plan.now c.after.result.now c.as_slice.result.now c.requires
    (columns_sent c.in_ok-steps.field-0 c.args.plan.now c.in_ok-chain.chain c.after.result.now c.in_ok-steps.ensures
    c.after.ensures c.in_ok-chain.ensures) c.as_slice.ensures

pub new-requires-3-clause-short : goal.new-requires-3-clause-short
new-requires-3-clause-short c = branches_short c.args.plan.now c.as_slice.result.now c.requires c.as_slice.ensures
