use Rattle.std.proofs.Common.{map, ap, ◌∙◌, rules}
use Rattle.gob_plan.specs.declared.units.UnitResult.{UnitResult}
use Rattle.gob_state.specs.Committed.{may_commit, verdict_in}
use Rattle.gob_commit.proofs.Pushing.{pushed_all, pushed_more}
use Rattle.gob_commit.proofs.flags.in_job.Goals as goal

pub loop-made-preserved : goal.loop-made-preserved
loop-made-preserved c =
    pushed_more (λ (r : UnitResult). may_commit c.args.rules.now.policy c.are_good-all.result (verdict_in r)) _ _ _
    c.args.results.now c.loop-made.made-index c.made-item.result _ (search rules) c.made-item.is
    c.is_allowed.ensures c.in_ok-push.ensures.ok c.loop-made.invariant

pub returns : goal.returns
returns c =
    pushed_all (λ (r : UnitResult). may_commit c.args.rules.now.policy c.are_good-all.result (verdict_in r)) _ _
    c.args.results.now c.loop-made.made-index (search rules) c.loop-made.invariant
    ∙ ap (λ a. map (λ (r : UnitResult). may_commit c.args.rules.now.policy a (verdict_in r)) c.args.results.now)
    c.are_good-all.ensures
