use Rattle.std.proofs.Common.{◌≡◌, length, refl, ap, ◌∙◌}
use Rattle.gob_plan.specs.declared.plan.Plan.{Plan}
use Rattle.gob_plan.specs.declared.units.Counts.{Counts}
use Rattle.gob_pipeline.specs.Taking.{zero_counts}
use Rattle.gob_pipeline.proofs.Feeding.{new_was_fed, none_length}
use Rattle.gob_pipeline.proofs.machine.Machine.new.Goals as goal

pub returns-clause-fed : goal.returns-clause-fed
returns-clause-fed c =
    let told = c.plan-plan.ensures.plan in
    let counts = c.in_ok-counts_of_none.ensures
    ∙ ap zero_counts (c.len.ensures ∙ ap (λ (p : Plan). length p.branches) told) in
    new_was_fed c.args.pipeline.now _ refl c.new.ensures.items counts (ap (λ (p : Plan). p.skip_errors) told) refl refl
    refl

pub returns-clause-branches : goal.returns-clause-branches
returns-clause-branches c =
    let told = c.plan-plan.ensures.plan in
    let many = c.len.ensures ∙ ap (λ (p : Plan). length p.branches) told in
    ap (λ (k : Counts). length k.branches) (c.in_ok-counts_of_none.ensures ∙ ap zero_counts many)
    ∙ none_length (length c.args.pipeline.now.branches)
