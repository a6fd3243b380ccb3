use Rattle.std.proofs.Common.{sym, get_or, ap, ◌∙◌, arith, zero-add}
use Rattle.gob_plan.specs.declared.plan.Mode.TheVariants as mode
use Rattle.gob_meaning.specs.Policies.{to_error, kill, ruling, ruling_from}
use Rattle.gob_plan.specs.declared.plan.PolicySpec.{PolicySpec}
use Rattle.gob_rowcheck.specs.Places.{stands_at}
use Rattle.gob_rowcheck.proofs.Standing.{stands_there}
use Rattle.gob_rowcheck.proofs.Rulings.{fails_at, all_ruled}
use Rattle.gob_rowcheck.proofs.judged.judge_row_at.Goals as goal

pub bounds-places-index : goal.bounds-places-index
bounds-places-index c =
    let at = stands_there (λ (p : PolicySpec). p.test.column) c.args.policies.now c.args.columns.now c.args.places.now
    c.loop-policy.policy-index c.policy-item.result c.requires.stand c.loop-policy-test.true c.policy-item.is in
    let there = at.there in
    let same = c.loop-policy.invariant.place in
    omega (arith, there, same)

pub holds_at-requires-clause-stands : goal.holds_at-requires-clause-stands
holds_at-requires-clause-stands c =
    let at = stands_there (λ (p : PolicySpec). p.test.column) c.args.policies.now c.args.columns.now c.args.places.now
    c.loop-policy.policy-index c.policy-item.result c.requires.stand c.loop-policy-test.true c.policy-item.is in
    ap (λ i. stands_at c.policy-item.result.test.column c.args.columns.now (get_or c.args.places.now i 0))
    c.loop-policy.invariant.place ∙ at.stands 0

pub returns-in-Fail : goal.returns-in-Fail
unfolding ruling
returns-in-Fail c =
    let l = c.loop-policy in
    let ps = c.args.policies.now in
    (λ j. (kill (l.invariant.place j), sym (zero-add l.optional) j))
    ∙ fails_at ps c.args.columns.now c.args.row.now l.optional l.policy-index c.policy-item.result mode.Fail
    (ruling_from 0 ps c.args.columns.now c.args.row.now) c.loop-policy-test.true c.policy-item.is
    (sym c.holds_at.ensures ∙ c.if-not-holds_at.true) c.in-Fail.is l.invariant.left

pub returns-in-ErrFile : goal.returns-in-ErrFile
unfolding ruling
returns-in-ErrFile c =
    let l = c.loop-policy in
    let ps = c.args.policies.now in
    (λ j. (to_error (l.invariant.place j), sym (zero-add l.optional) j))
    ∙ fails_at ps c.args.columns.now c.args.row.now l.optional l.policy-index c.policy-item.result mode.ErrFile
    (ruling_from 0 ps c.args.columns.now c.args.row.now) c.loop-policy-test.true c.policy-item.is
    (sym c.holds_at.ensures ∙ c.if-not-holds_at.true) c.in-ErrFile.is l.invariant.left

pub returns : goal.returns
unfolding ruling
returns c = sym (all_ruled c.args.policies.now c.args.columns.now c.args.row.now c.loop-policy.optional
    c.loop-policy.policy-index c.loop-policy-test.false) ∙ c.loop-policy.invariant.left
