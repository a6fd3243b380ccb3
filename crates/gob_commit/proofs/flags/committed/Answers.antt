use Rattle.std.proofs.Common.{◌≡◌, sym, map, subst}
use Rattle.gob_ledger.specs.Groups.{is_committed}
use Rattle.gob_plan.specs.declared.plan.CommitScope.{CommitScope}
use Rattle.gob_state.specs.Committed.{judged_by}
use Rattle.gob_commit.proofs.Judging.{job_flags}
use Rattle.gob_commit.proofs.flags.committed.Goals as goal

pub returns-in_ok-flags-in-Job : goal.returns-in_ok-flags-in-Job
returns-in_ok-flags-in-Job c =
    let js = judged_by c.args.units.now c.args.results.now in
    subst (λ (s : CommitScope). c.in_ok-flags-in-Job.flags ≡ map (is_committed s c.args.rules.now.policy js) js)
    (sym c.in-Job.is)
    (job_flags c.args.rules.now.policy c.args.units.now c.args.results.now _ c.requires c.in_ok-flags-in-Job.ensures)

pub returns-in_ok-flags-in-Dataset : goal.returns-in_ok-flags-in-Dataset
returns-in_ok-flags-in-Dataset c =
    let js = judged_by c.args.units.now c.args.results.now in
    subst (λ (s : CommitScope). c.in_ok-flags-in-Dataset.flags ≡ map (is_committed s c.args.rules.now.policy js) js)
    (sym c.in-Dataset.is) c.in_ok-flags-in-Dataset.ensures
