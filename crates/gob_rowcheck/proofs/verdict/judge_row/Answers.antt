use Rattle.std.proofs.Common.{◌≡◌, sym, ap, ◌∙◌, zero-add}
use Rattle.gob_plan.specs.declared.plan.Mode.TheVariants as mode
use Rattle.gob_meaning.specs.Policies.{to_error, kill, ruling, ruling_from}
use Rattle.gob_rowcheck.proofs.Rulings.{fails_at, all_ruled}
use Rattle.gob_rowcheck.proofs.verdict.judge_row.Goals as goal

pub returns-in-Fail : goal.returns-in-Fail
unfolding ruling
returns-in-Fail c =
    let l = c.loop-policy in
    let ps = c.args.policies.now in
    (λ j. (kill (l.invariant.place j), sym (zero-add l.optional) j))
    ∙ fails_at ps c.args.columns.now c.args.row.now l.optional l.policy-index c.policy-item.result mode.Fail
    (ruling_from 0 ps c.args.columns.now c.args.row.now) c.loop-policy-test.true c.policy-item.is
    (sym c.holds.ensures ∙ c.if-not-holds.true) c.in-Fail.is l.invariant.left

pub returns-in-ErrFile : goal.returns-in-ErrFile
unfolding ruling
returns-in-ErrFile c =
    let l = c.loop-policy in
    let ps = c.args.policies.now in
    (λ j. (to_error (l.invariant.place j), sym (zero-add l.optional) j))
    ∙ fails_at ps c.args.columns.now c.args.row.now l.optional l.policy-index c.policy-item.result mode.ErrFile
    (ruling_from 0 ps c.args.columns.now c.args.row.now) c.loop-policy-test.true c.policy-item.is
    (sym c.holds.ensures ∙ c.if-not-holds.true) c.in-ErrFile.is l.invariant.left

pub returns : goal.returns
unfolding ruling
returns c = sym (all_ruled c.args.policies.now c.args.columns.now c.args.row.now c.loop-policy.optional
    c.loop-policy.policy-index c.loop-policy-test.false) ∙ c.loop-policy.invariant.left
