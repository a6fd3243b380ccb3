use Rattle.std.proofs.Common.{◌∙◌, ap, not, sym, arith}
use Rattle.gob_plan.specs.declared.plan.CommitScope.TheVariants as scope
use Rattle.gob_plan.specs.declared.units.Unit.{Unit as WorkUnit}
use Rattle.gob_ledger.specs.Groups.{dataset_of, is_committed}
use Rattle.gob_state.specs.Committed.{judged_by, verdict_in}
use Rattle.gob_commit.proofs.Judging.{flag_is, flags_all, flags_more}
use Rattle.gob_commit.proofs.flags.in_datasets.Goals as goal

pub loop-i-preserved : goal.loop-i-preserved
loop-i-preserved c =
    let js = judged_by c.args.units.now c.args.results.now in
    let policy = c.args.rules.now.policy in
    let d = c.dataset_of-dataset.result in
    flags_more (is_committed scope.Dataset policy js) c.args.units.now c.args.results.now c.loop-i.i
    c.index-units-i.result c.index-results-i.result c.is_allowed.result _ _ _ (omega arith) (omega arith)
    c.index-units-i.is c.index-results-i.is
    (c.is_allowed.ensures
    ∙ flag_is policy js c.index-units-i.result (verdict_in c.index-results-i.result) d.now _
    (c.dataset_of-dataset.ensures ∙ ap dataset_of c.as_str.ensures
    ∙ ap (λ (u : WorkUnit). dataset_of u.part) (sym c.index-units-i.is))
    (ap not (c.contains-all.ensures ∙ c.in_ok-bad.ensures d)))
    c.in_ok-push.ensures.ok c.loop-i.invariant

pub returns : goal.returns
returns c =
    flags_all (is_committed scope.Dataset c.args.rules.now.policy (judged_by c.args.units.now c.args.results.now))
    c.args.units.now c.args.results.now c.loop-i.i _ _ (omega arith) c.loop-i.invariant
