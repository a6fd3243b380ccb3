use Rattle.gob_commit.proofs.Whole.{job_broken, job_done}
use Rattle.gob_commit.proofs.commits.commit_each.Goals as goal

pub returns-in_err-last-in-Job-clause-along : goal.returns-in_err-last-in-Job-clause-along
returns-in_err-last-in-Job-clause-along g c =
    let rules = c.args.rules.now in
    let l = c.args.loaded in
    let units = c.args.units.now in
    let results = c.args.results.now in
    job_broken rules l units results _ c.in-Job.is c.requires.can c.requires.there c.commit_group.ensures.rises

pub returns-in_ok-last-in-Job-clause-value : goal.returns-in_ok-last-in-Job-clause-value
returns-in_ok-last-in-Job-clause-value g c =
    let rules = c.args.rules.now in
    let l = c.args.loaded in
    let units = c.args.units.now in
    let results = c.args.results.now in
    (job_done rules l units results _ _ c.in-Job.is c.requires.can c.requires.there c.in_ok-last-in-Job.ensures.value
    c.in_ok-last-in-Job.ensures.ok c.in_ok-last-in-Job.ensures.rest).leads

pub returns-in_ok-last-in-Job-clause-along : goal.returns-in_ok-last-in-Job-clause-along
returns-in_ok-last-in-Job-clause-along g c =
    let rules = c.args.rules.now in
    let l = c.args.loaded in
    let units = c.args.units.now in
    let results = c.args.results.now in
    (job_done rules l units results _ _ c.in-Job.is c.requires.can c.requires.there c.in_ok-last-in-Job.ensures.value
    c.in_ok-last-in-Job.ensures.ok c.in_ok-last-in-Job.ensures.rest).along

pub returns-in_ok-last-in-Job-clause-ok : goal.returns-in_ok-last-in-Job-clause-ok
returns-in_ok-last-in-Job-clause-ok g c =
    let rules = c.args.rules.now in
    let l = c.args.loaded in
    let units = c.args.units.now in
    let results = c.args.results.now in
    (job_done rules l units results _ _ c.in-Job.is c.requires.can c.requires.there c.in_ok-last-in-Job.ensures.value
    c.in_ok-last-in-Job.ensures.ok c.in_ok-last-in-Job.ensures.rest).over
