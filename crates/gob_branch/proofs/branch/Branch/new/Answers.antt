use Rattle.std.proofs.Common.{◌∙◌}
use Rattle.gob_branch.proofs.Rows.{branch_is, policies_fit}
use Rattle.gob_branch.proofs.branch.Branch.new.Goals as goal

pub policy_places-requires : goal.policy_places-requires
policy_places-requires c =
    policies_fit c.args.spec.now c.in_ok-steps.field-0 c.args.columns.now c.after.result.now c.in_ok-chain.chain
    c.as_slice.result.now c.in_ok-steps.ensures c.in_ok-chain.ensures c.after.ensures c.as_slice.ensures
    c.requires.fits

pub invariant_of-result : goal.invariant_of-result
invariant_of-result c =
    branch_is c.args.spec.now c.in_ok-steps.field-0 c.args.columns.now c.after-2.result.now c.in_ok-chain.chain
    c.placing-day.result c.in-Ok.encoder.columns c.after.result.now c.as_slice.result.now c.in_ok-places.places.items
    c.in_ok-steps.ensures c.in_ok-chain.ensures c.after-2.ensures c.requires.fits c.requires.short
    c.placing-day.ensures (c.in-Ok.ensures.ok.1 ∙ c.after-3.ensures) c.after.ensures c.as_slice.ensures
    c.in_ok-places.ensures
