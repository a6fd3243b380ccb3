use Rattle.std.proofs.Common.{List, [], ℕ, length, Err, sym, ap, subst, ◌∙◌}
use Rattle.std.proofs.lemmas.Result.{err_from_is_err_and}
use Rattle.gob_plan.specs.declared.units.Unit.{Unit as WorkUnit}
use Rattle.gob_job.specs.Jobs.{job_from}
use Rattle.gob_run.specs.Answers.{Answer}
use Rattle.gob_run.specs.Faults.{run_of_commit, run_of_turns}
use Rattle.gob_run.specs.Working.{Worked}
use Rattle.gob_run.specs.World.{World}
use Rattle.gob_run.specs.declared.fault.RunFault.TheVariants.{Memory}
use Rattle.gob_run.proofs.Called.{AreCommitted, AreTheirs, Begins, at_err, commits_can, commits_say, commits_there}
use Rattle.gob_run.proofs.Called.{commits_end, have_ranges, turns_asked, turns_end, turns_say}
use Rattle.gob_run.proofs.Worked.{stopped_at_first, stopped_in_commits, stopped_in_turns, work_done}
use Rattle.gob_run.proofs.work.turn_and_commit.Goals as goal

pub returns-in_err-rules : goal.returns-in_err-rules
returns-in_err-rules g c =
    let job = job_from c.args.job.now in
    let l = c.args.loaded in
    let cut = c.args.cut in
    let w : World = record {
      supply = g.S.Source.supply c.args.source.now;
      source_faults = g.S.Source.faults c.args.source.now;
      plan_faults = g.S.Source.plan_faults c.args.source.now;
      disk = g.V.Volume.disk c.args.volume.now;
      volume_faults = g.V.Volume.faults c.args.volume.now;
    } in
    let p = err_from_is_err_and c.from_residual.result c.from_residual.ensures.1 in
    subst (λ (failing : List ℕ). Worked job failing l cut c.from_residual.result w w) (sym c.requires.none)
    (at_err (λ (a : Answer). Worked job [] l cut a w w) c.from_residual.result p.0 Memory p.1 p.2
    (stopped_at_first job l cut w))

pub take_turns-requires-clause-units : goal.take_turns-requires-clause-units
take_turns-requires-clause-units g c =
    let job = job_from c.args.job.now in
    let l = c.args.loaded in
    let cut = c.args.cut in
    let old : World = record {
      supply = g.S.Source.supply c.args.source.now;
      source_faults = g.S.Source.faults c.args.source.now;
      plan_faults = g.S.Source.plan_faults c.args.source.now;
      disk = g.V.Volume.disk c.args.volume.now;
      volume_faults = g.V.Volume.faults c.args.volume.now;
    } in
    let begins : Begins job l cut old = record {
      right = c.requires.right;
      named = c.requires.named;
      loaded = c.requires.loaded;
      fits = c.requires.cut;
    } in
    let theirs : AreTheirs job cut c.in_ok-rules.rules c.as_slice.result.now = record {
      rules_are = c.in_ok-rules.ensures;
      units_are = c.as_slice.ensures;
    } in
    turns_asked job l cut c.in_ok-rules.rules c.as_slice.result.now old begins theirs

pub returns-in_err-results : goal.returns-in_err-results
returns-in_err-results g c =
    let job = job_from c.args.job.now in
    let l = c.args.loaded in
    let cut = c.args.cut in
    let failing = c.take_turns.new.failed in
    let old : World = record {
      supply = g.S.Source.supply c.args.source.now;
      source_faults = g.S.Source.faults c.args.source.now;
      plan_faults = g.S.Source.plan_faults c.args.source.now;
      disk = g.V.Volume.disk c.args.volume.now;
      volume_faults = g.V.Volume.faults c.args.volume.now;
    } in
    let new : World = record {
      supply = g.S.Source.supply c.take_turns.new.source;
      source_faults = g.S.Source.faults c.take_turns.new.source;
      plan_faults = g.S.Source.plan_faults c.take_turns.new.source;
      disk = g.V.Volume.disk c.take_turns.new.volume;
      volume_faults = g.V.Volume.faults c.take_turns.new.volume;
    } in
    let begins : Begins job l cut old = record {
      right = c.requires.right;
      named = c.requires.named;
      loaded = c.requires.loaded;
      fits = c.requires.cut;
    } in
    let theirs : AreTheirs job cut c.in_ok-rules.rules c.as_slice.result.now = record {
      rules_are = c.in_ok-rules.ensures;
      units_are = c.as_slice.ensures;
    } in
    let e = c.take_turns.ensures in
    let say = turns_say job l cut c.in_ok-rules.rules c.as_slice.result.now failing old new begins theirs e.told
    (record {
      maps = e.maps;
      failed = e.failing;
      source = e.source;
      planned = e.planned;
      volume =
          e.cause.later;
      pulled = e.pulled;
    }) in
    let fault = c.in_err-results.field-0.0 in
    let p = err_from_is_err_and c.from_residual-in_err-results.result c.from_residual-in_err-results.ensures.1 in
    at_err (λ (a : Answer). Worked job failing l cut a old new) c.from_residual-in_err-results.result p.0
    (run_of_turns fault) p.1 p.2
    (stopped_in_turns job l cut failing fault old new say
    (λ is. c.in_err-results.ensures.cause.rose (ap (λ f. Err f) is)))

pub commit_groups-requires-clause-can : goal.commit_groups-requires-clause-can
commit_groups-requires-clause-can g c =
    let job = job_from c.args.job.now in
    let l = c.args.loaded in
    let cut = c.args.cut in
    let old : World = record {
      supply = g.S.Source.supply c.args.source.now;
      source_faults = g.S.Source.faults c.args.source.now;
      plan_faults = g.S.Source.plan_faults c.args.source.now;
      disk = g.V.Volume.disk c.args.volume.now;
      volume_faults = g.V.Volume.faults c.args.volume.now;
    } in
    let begins : Begins job l cut old = record {
      right = c.requires.right;
      named = c.requires.named;
      loaded = c.requires.loaded;
      fits = c.requires.cut;
    } in
    let theirs : AreTheirs job cut c.in_ok-rules.rules c.as_slice.result.now = record {
      rules_are = c.in_ok-rules.ensures;
      units_are = c.as_slice.ensures;
    } in
    let these : AreCommitted job cut c.in_ok-results.results c.commit_rules-by.result c.as_slice-2.result.now
    c.as_slice-3.result.now = record {
      has = c.commit_rules-by.ensures.rules;
      units_are = c.as_slice-2.ensures;
      made_are = c.as_slice-3.ensures;
    } in
    commits_can job l cut c.in_ok-results.results c.commit_rules-by.result c.as_slice-2.result.now
    c.as_slice-3.result.now c.in_ok-rules.rules c.as_slice.result.now old (g.V.Volume.disk c.take_turns.new.volume)
    begins theirs these c.commit_rules-by.ensures.kept c.in_ok-results.ensures.committable

pub commit_groups-requires-clause-there : goal.commit_groups-requires-clause-there
commit_groups-requires-clause-there g c =
    let job = job_from c.args.job.now in
    let cut = c.args.cut in
    let theirs : AreTheirs job cut c.in_ok-rules.rules c.as_slice.result.now = record {
      rules_are = c.in_ok-rules.ensures;
      units_are = c.as_slice.ensures;
    } in
    let these : AreCommitted job cut c.in_ok-results.results c.commit_rules-by.result c.as_slice-2.result.now
    c.as_slice-3.result.now = record {
      has = c.commit_rules-by.ensures.rules;
      units_are = c.as_slice-2.ensures;
      made_are = c.as_slice-3.ensures;
    } in
    commits_there job cut c.in_ok-results.results c.commit_rules-by.result c.as_slice-2.result.now
    c.as_slice-3.result.now c.in_ok-rules.rules c.as_slice.result.now (g.V.Volume.disk c.args.volume.now)
    (g.V.Volume.disk c.take_turns.new.volume) theirs these c.requires.closed c.take_turns.ensures.maps
    c.in_ok-results.ensures.committable

pub returns-in_err-committed : goal.returns-in_err-committed
returns-in_err-committed g c =
    let job = job_from c.args.job.now in
    let l = c.args.loaded in
    let cut = c.args.cut in
    let failing = c.take_turns.new.failed in
    let results = c.in_ok-results.results in
    let by = c.commit_rules-by.result in
    let old : World = record {
      supply = g.S.Source.supply c.args.source.now;
      source_faults = g.S.Source.faults c.args.source.now;
      plan_faults = g.S.Source.plan_faults c.args.source.now;
      disk = g.V.Volume.disk c.args.volume.now;
      volume_faults = g.V.Volume.faults c.args.volume.now;
    } in
    let mid : World = record {
      supply = g.S.Source.supply c.take_turns.new.source;
      source_faults = g.S.Source.faults c.take_turns.new.source;
      plan_faults = g.S.Source.plan_faults c.take_turns.new.source;
      disk = g.V.Volume.disk c.take_turns.new.volume;
      volume_faults = g.V.Volume.faults c.take_turns.new.volume;
    } in
    let disk = g.V.Volume.disk c.commit_groups.new.volume in
    let faults = g.V.Volume.faults c.commit_groups.new.volume in
    let begins : Begins job l cut old = record {
      right = c.requires.right;
      named = c.requires.named;
      loaded = c.requires.loaded;
      fits = c.requires.cut;
    } in
    let theirs : AreTheirs job cut c.in_ok-rules.rules c.as_slice.result.now = record {
      rules_are = c.in_ok-rules.ensures;
      units_are = c.as_slice.ensures;
    } in
    let these : AreCommitted job cut results by c.as_slice-2.result.now c.as_slice-3.result.now = record {
      has = c.commit_rules-by.ensures.rules;
      units_are = c.as_slice-2.ensures;
      made_are = c.as_slice-3.ensures;
    } in
    let e = c.take_turns.ensures in
    let say = turns_say job l cut c.in_ok-rules.rules c.as_slice.result.now failing old mid begins theirs e.told
    (record {
      maps = e.maps;
      failed = e.failing;
      source = e.source;
      planned = e.planned;
      volume =
          e.cause.later;
      pulled = e.pulled;
    }) in
    let end = turns_end job l cut c.in_ok-rules.rules c.as_slice.result.now failing results old mid begins theirs say
    c.in_ok-results.ensures.whole c.in_ok-results.ensures.given c.in_ok-results.ensures.given_up in
    let f = c.commit_groups.ensures in
    let said = commits_say job l cut results by c.as_slice-2.result.now c.as_slice-3.result.now mid disk faults these
    f.along f.below f.goes_on in
    let fault = c.in_err-committed.field-0.0 in
    let p = err_from_is_err_and c.from_residual-in_err-committed.result c.from_residual-in_err-committed.ensures.1 in
    at_err
    (λ (a : Answer). Worked job failing l cut a old (record mid { disk = disk; volume_faults = faults }))
    c.from_residual-in_err-committed.result p.0 (run_of_commit fault) p.1 p.2
    (stopped_in_commits job l cut failing results by fault old mid disk faults end these.has
    (have_ranges job l cut old begins) said c.in_err-committed.ensures.err)

pub returns : goal.returns
returns g c =
    let job = job_from c.args.job.now in
    let l = c.args.loaded in
    let cut = c.args.cut in
    let failing = c.take_turns.new.failed in
    let results = c.in_ok-results.results in
    let by = c.commit_rules-by.result in
    let old : World = record {
      supply = g.S.Source.supply c.args.source.now;
      source_faults = g.S.Source.faults c.args.source.now;
      plan_faults = g.S.Source.plan_faults c.args.source.now;
      disk = g.V.Volume.disk c.args.volume.now;
      volume_faults = g.V.Volume.faults c.args.volume.now;
    } in
    let mid : World = record {
      supply = g.S.Source.supply c.take_turns.new.source;
      source_faults = g.S.Source.faults c.take_turns.new.source;
      plan_faults = g.S.Source.plan_faults c.take_turns.new.source;
      disk = g.V.Volume.disk c.take_turns.new.volume;
      volume_faults = g.V.Volume.faults c.take_turns.new.volume;
    } in
    let disk = g.V.Volume.disk c.commit_groups.new.volume in
    let faults = g.V.Volume.faults c.commit_groups.new.volume in
    let begins : Begins job l cut old = record {
      right = c.requires.right;
      named = c.requires.named;
      loaded = c.requires.loaded;
      fits = c.requires.cut;
    } in
    let theirs : AreTheirs job cut c.in_ok-rules.rules c.as_slice.result.now = record {
      rules_are = c.in_ok-rules.ensures;
      units_are = c.as_slice.ensures;
    } in
    let these : AreCommitted job cut results by c.as_slice-2.result.now c.as_slice-3.result.now = record {
      has = c.commit_rules-by.ensures.rules;
      units_are = c.as_slice-2.ensures;
      made_are = c.as_slice-3.ensures;
    } in
    let e = c.take_turns.ensures in
    let say = turns_say job l cut c.in_ok-rules.rules c.as_slice.result.now failing old mid begins theirs e.told
    (record {
      maps = e.maps;
      failed = e.failing;
      source = e.source;
      planned = e.planned;
      volume =
          e.cause.later;
      pulled = e.pulled;
    }) in
    let end = turns_end job l cut c.in_ok-rules.rules c.as_slice.result.now failing results old mid begins theirs say
    c.in_ok-results.ensures.whole c.in_ok-results.ensures.given c.in_ok-results.ensures.given_up in
    let f = c.commit_groups.ensures in
    let said = commits_say job l cut results by c.as_slice-2.result.now c.as_slice-3.result.now mid disk faults these
    f.along f.below f.goes_on in
    let did = commits_end job l cut results by c.as_slice-2.result.now c.as_slice-3.result.now
    c.in_ok-committed.committed mid.disk disk these
    (record { are = c.in_ok-committed.ensures.value; goes = c.in_ok-committed.ensures.ok }) in
    work_done job l cut failing results by c.in_ok-committed.committed old mid disk faults end these.has
    (have_ranges job l cut old begins)
    (c.in_ok-results.ensures.committable.number ∙ ap (λ (us : List WorkUnit). length us) theirs.units_are) said did.are
    c.in_ok-committed.ensures.proper did.goes
