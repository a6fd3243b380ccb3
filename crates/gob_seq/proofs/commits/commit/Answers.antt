use Rattle.std.proofs.Common.{[]}
use Rattle.gob_bytes.specs.Paths.{under}
use Rattle.gob_device.proofs.Trail.{along_map, along_then}
use Rattle.gob_recovery.specs.Commits.{OnlyBelow}
use Rattle.gob_recovery.proofs.Commits.{below_then}
use Rattle.gob_bytes.specs.Paths.{staging}
use Rattle.gob_seq.proofs.GoingOver.{ends_cleaned, over_cleaned, where_ready}
use Rattle.gob_seq.proofs.Named.{below_job}
use Rattle.gob_seq.proofs.Readers.{commits_read_cleaned}
use Rattle.gob_seq.proofs.commits.commit.Goals as goal

pub returns-in_err-clean_staging-clause-rises : goal.returns-in_err-clean_staging-clause-rises
returns-in_err-clean_staging-clause-rises g c =
    where_ready c.args.job.now c.args.sequence.now c.requires.fits c.requires.ready
    (over_cleaned c.args.job.now c.args.sequence.now c.commit_part.ensures.rises c.in_ok-commit_part.ensures.ok
    c.clean_staging.ensures.below)

pub returns-clause-rises : goal.returns-clause-rises
returns-clause-rises g c =
    where_ready c.args.job.now c.args.sequence.now c.requires.fits c.requires.ready
    (over_cleaned c.args.job.now c.args.sequence.now c.commit_part.ensures.rises c.in_ok-commit_part.ensures.ok
    c.clean_staging.ensures.below)

pub returns-in_err-clean_staging-clause-readers : goal.returns-in_err-clean_staging-clause-readers
returns-in_err-clean_staging-clause-readers g c =
    commits_read_cleaned c.args.job.now c.args.sequence.now c.commit_part.ensures.readers c.clean_staging.ensures.below

pub returns-in_err-clean_staging-clause-below : goal.returns-in_err-clean_staging-clause-below
returns-in_err-clean_staging-clause-below g c =
    let job = c.args.job.now in
    along_then (OnlyBelow (under job [])) (below_then (under job [])) c.commit_part.ensures.below
    (along_map (OnlyBelow (staging job)) (OnlyBelow (under job [])) (below_job job) c.clean_staging.ensures.below)

pub returns-clause-readers : goal.returns-clause-readers
returns-clause-readers g c =
    commits_read_cleaned c.args.job.now c.args.sequence.now c.commit_part.ensures.readers c.clean_staging.ensures.below

pub returns-clause-below : goal.returns-clause-below
returns-clause-below g c =
    let job = c.args.job.now in
    along_then (OnlyBelow (under job [])) (below_then (under job [])) c.commit_part.ensures.below
    (along_map (OnlyBelow (staging job)) (OnlyBelow (under job [])) (below_job job) c.clean_staging.ensures.below)

pub returns-clause-ok : goal.returns-clause-ok
returns-clause-ok g c =
    ends_cleaned c.args.job.now c.args.sequence.now c.in_ok-commit_part.ensures.ok c.in_ok-clean_staging.ensures.ok
