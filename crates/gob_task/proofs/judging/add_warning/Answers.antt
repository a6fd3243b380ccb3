use Rattle.std.proofs.Common.{◌++◌, sym, ap, ◌∙◌, append-nil}
use Rattle.gob_task.proofs.Warnings.{not_warned, warned}
use Rattle.gob_task.proofs.judging.add_warning.Goals as goal

pub returns-then-warns : goal.returns-then-warns
returns-then-warns c =
    c.in_ok-push.ensures.ok ∙ ap (λ ns. c.args.list.now ++ ns)
    (sym (warned c.args.index c.args.policy.now c.args.counts.now (sym c.warns.ensures ∙ c.if-warns.true)))

pub returns : goal.returns
returns c =
    sym (append-nil c.args.list.now) ∙ ap (λ ns. c.args.list.now ++ ns)
    (sym (not_warned c.args.index c.args.policy.now c.args.counts.now (sym c.warns.ensures ∙ c.if-warns.false)))
