use Rattle.std.proofs.Common.{[]}
use Rattle.gob_bytes.specs.Paths.{staging, under}
use Rattle.gob_device.proofs.Trail.{along_map, along_then}
use Rattle.gob_recovery.specs.Commits.{OnlyBelow}
use Rattle.gob_recovery.proofs.Commits.{below_then}
use Rattle.gob_seq.proofs.Named.{below_job}
use Rattle.gob_commit.proofs.Beginning.{nothing_along}
use Rattle.gob_commit.proofs.Looping.{clean_along, clean_ends, commits_are}
use Rattle.gob_commit.proofs.commits.commit_groups.Goals as goal

pub returns-in_err-committed-clause-along : goal.returns-in_err-committed-clause-along
returns-in_err-committed-clause-along g c =
    let rules = c.args.rules.now in
    let l = c.args.loaded in
    let units = c.args.units.now in
    let results = c.args.results.now in
    nothing_along rules l units results _

pub returns-in_err-clean_staging-clause-along : goal.returns-in_err-clean_staging-clause-along
returns-in_err-clean_staging-clause-along g c =
    let rules = c.args.rules.now in
    let l = c.args.loaded in
    let units = c.args.units.now in
    let results = c.args.results.now in
    clean_along rules l units results c.in_ok-last.ensures.ok c.clean_staging.ensures.below

pub returns-in_err-clean_staging-clause-below : goal.returns-in_err-clean_staging-clause-below
returns-in_err-clean_staging-clause-below g c =
    let job = c.args.rules.now.job.now in
    along_then (OnlyBelow (under job [])) (below_then (under job [])) c.commit_each.ensures.below
    (along_map (OnlyBelow (staging job)) (OnlyBelow (under job [])) (below_job job) c.clean_staging.ensures.below)

pub returns-in_err-after-clause-along : goal.returns-in_err-after-clause-along
returns-in_err-after-clause-along g c =
    let rules = c.args.rules.now in
    let l = c.args.loaded in
    let units = c.args.units.now in
    let results = c.args.results.now in
    clean_along rules l units results c.in_ok-last.ensures.ok c.clean_staging.ensures.below

pub returns-in_err-after-clause-below : goal.returns-in_err-after-clause-below
returns-in_err-after-clause-below g c =
    let job = c.args.rules.now.job.now in
    along_then (OnlyBelow (under job [])) (below_then (under job [])) c.commit_each.ensures.below
    (along_map (OnlyBelow (staging job)) (OnlyBelow (under job [])) (below_job job) c.clean_staging.ensures.below)

pub returns-clause-along : goal.returns-clause-along
returns-clause-along g c =
    let rules = c.args.rules.now in
    let l = c.args.loaded in
    let units = c.args.units.now in
    let results = c.args.results.now in
    clean_along rules l units results c.in_ok-last.ensures.ok c.clean_staging.ensures.below

pub returns-clause-below : goal.returns-clause-below
returns-clause-below g c =
    let job = c.args.rules.now.job.now in
    along_then (OnlyBelow (under job [])) (below_then (under job [])) c.commit_each.ensures.below
    (along_map (OnlyBelow (staging job)) (OnlyBelow (under job [])) (below_job job) c.clean_staging.ensures.below)

pub returns-clause-value : goal.returns-clause-value
returns-clause-value g c =
    let rules = c.args.rules.now in
    let l = c.args.loaded in
    let units = c.args.units.now in
    let results = c.args.results.now in
    commits_are rules l c.in_ok-last.last units results c.in_ok-after.after c.in_ok-committed.committed
    c.in_ok-last.ensures.value c.in_ok-after.ensures.state c.in_ok-committed.ensures

pub returns-clause-ok : goal.returns-clause-ok
returns-clause-ok g c =
    let rules = c.args.rules.now in
    let l = c.args.loaded in
    let units = c.args.units.now in
    let results = c.args.results.now in
    clean_ends rules l units results c.in_ok-last.ensures.ok c.clean_staging.ensures.below
    c.in_ok-clean_staging.ensures.ok
