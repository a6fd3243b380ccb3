use Rattle.std.proofs.Common.{sym, ap, subst, ◌∙◌, arith}
use Rattle.gob_recovery.proofs.Names.{file_pathname}
use Rattle.gob_device.specs.Names.{IsPathname}
use Rattle.gob_stage.specs.Attempt.{new_attempt}
use Rattle.gob_task.proofs.Begun.{begun_as, has_begun}
use Rattle.gob_task.proofs.task.Task.begin.Goals as goal

pub new-requires-2 : goal.new-requires-2
new-requires-2 c = subst IsPathname (sym c.as_str.ensures) (file_pathname c.rules.inside.job c.rules.inside.named)

pub returns : goal.returns
returns c =
    begun_as (ap (λ r. r.job) c.rules.view_is) (ap (λ r. r.plan) c.rules.view_is)
    (has_begun c.rules.inside.job c.rules.inside.pipeline c.args.unit.now c.in_ok-unit.unit c.args.index c.args.failures
    c.in_ok-machine.machine c.new-names.result c.in_ok-staged.staged c.requires (omega arith) (omega arith)
    c.in_ok-unit.ensures c.in_ok-machine.ensures.fed c.in_ok-machine.ensures.lo c.in_ok-machine.ensures.branches
    c.new-names.ensures
    (c.in_ok-staged.ensures ∙ ap (λ job. new_attempt job c.args.index c.args.failures) c.as_str.ensures))
