use Rattle.std.proofs.Common.{◌<◌, ◌^◌, length, sym, ap, subst, ◌∙◌}
use Rattle.gob_meaning.specs.Plans.{is_fitting}
use Rattle.gob_meaning.specs.Results.{warnings_of}
use Rattle.gob_recovery.specs.Sequence.{is_file_name}
use Rattle.gob_stage.specs.Attempt.{staged_files}
use Rattle.gob_task.proofs.Begun.{few_policies}
use Rattle.gob_task.proofs.Files.{finished, held_as}
use Rattle.gob_task.proofs.task.Task.finish.Goals as goal

pub warnings-requires : goal.warnings-requires
warnings-requires g c = record {
  few = subst (λ ps. length ps < 2 ^ 32) (sym c.as_slice-policies.ensures)
      (few_policies c.plan.result.now (ap is_fitting c.plan.ensures.plan ∙ c.plan.ensures.fitting));
}

pub returns-clause-finished : goal.returns-clause-finished
returns-clause-finished g c =
    let policies = c.as_slice-policies.ensures
    ∙ ap (λ p. p.task_policies) (c.plan.ensures.plan ∙ ap (λ r. r.plan) c.rules.view_is) in
    let counted = ap (λ t. t.machine.counts) c.self.view_is in
    let staged = ap (λ t. t.staged) c.self.view_is in
    λ fed whole. finished c.args.rules.now c.args.self fed c.in_ok-counts.counts c.in_ok-warnings.warnings
    c.in_ok-staged.staged _ _ whole (ap (λ r. is_file_name r.job) (sym c.rules.view_is) ∙ c.rules.inside.named)
    (c.in_ok-counts.ensures ∙ (c.counts-2.ensures ∙ counted))
    (c.in_ok-warnings.ensures
    ∙ (ap (λ ps. warnings_of ps c.counts.result.now) policies
    ∙ ap (warnings_of c.args.rules.now.plan.task_policies) (c.counts.ensures ∙ counted)))
    (c.in_ok-staged.ensures.files ∙ ap staged_files staged) c.in_ok-staged.ensures.order
    (held_as _ _ staged c.in_ok-staged.ensures.holds)
