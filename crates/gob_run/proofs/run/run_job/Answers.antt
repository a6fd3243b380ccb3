use Rattle.std.proofs.Common.{ℕ, List, [], Ok, Err, refl, sym, subst, arith}
use Rattle.std.proofs.lemmas.Result.{err_from_is_err_and}
use Rattle.gob_recovery.proofs.Names.{file_pathname}
use Rattle.gob_device.specs.Disk.{AddsMaps}
use Rattle.gob_device.specs.Names.{IsPathname}
use Rattle.gob_job.specs.Jobs.{job_from}
use Rattle.gob_run.specs.Answers.{Answer, RunAnswered}
use Rattle.gob_run.specs.Faults.{BeginsNot, Finds}
use Rattle.gob_run.specs.World.{World}
use Rattle.gob_run.proofs.Answering.{answered_behind_work}
use Rattle.gob_run.proofs.Began.{closed_of}
use Rattle.gob_run.proofs.Called.{at_err}
use Rattle.gob_run.proofs.Refusing.{refused_at_cut, refused_at_entry}
use Rattle.gob_run.proofs.Trailing.{EntrySays}
use Rattle.gob_run.proofs.run.run_job.Goals as goal

pub settle_and_load-requires : goal.settle_and_load-requires
settle_and_load-requires g c = record {
  named = subst IsPathname (sym c.as_str.ensures) (file_pathname c.args.job.now.name c.requires.named);
}

pub returns-in_err-loaded : goal.returns-in_err-loaded
returns-in_err-loaded g c =
    let job = job_from c.args.job.now in
    let old : World = record {
      supply = g.S.Source.supply c.args.source.now;
      source_faults = g.S.Source.faults c.args.source.now;
      plan_faults = g.S.Source.plan_faults c.args.source.now;
      disk = g.V.Volume.disk c.args.volume.now;
      volume_faults = g.V.Volume.faults c.args.volume.now;
    } in
    let new : World = record old {
      disk = g.V.Volume.disk c.settle_and_load.new.volume;
      volume_faults = g.V.Volume.faults c.settle_and_load.new.volume;
    } in
    let says : EntrySays job.name old.disk new.disk old.volume_faults new.volume_faults =
    subst (λ (n : List ℕ). EntrySays n old.disk new.disk old.volume_faults new.volume_faults) c.as_str.ensures
    (record {
      alike = c.settle_and_load.ensures.alike;
      names = c.settle_and_load.ensures.readers;
      staged = c.settle_and_load.ensures.unstages;
      damaged = c.settle_and_load.ensures.damaged;
      below = c.settle_and_load.ensures.below;
      later = c.settle_and_load.ensures.goes_on;
    }) in
    let fault = c.in_err-loaded.field-0.0 in
    let stopped : BeginsNot job.name old.disk new.disk old.volume_faults new.volume_faults fault =
    subst (λ (n : List ℕ). BeginsNot n old.disk new.disk old.volume_faults new.volume_faults fault) c.as_str.ensures
    c.in_err-loaded.ensures.stopped in
    let p = err_from_is_err_and c.from_residual.result c.from_residual.ensures.1 in
    subst (λ (failing : List ℕ). RunAnswered job failing c.from_residual.result old new) (sym c.requires.none)
    (at_err (λ (a : Answer). RunAnswered job [] a old new) c.from_residual.result p.0 fault p.1 p.2
    (refused_at_entry job fault old new
    (record {
      alike = says.alike;
      names = says.names;
      staged = says.staged;
      damaged = says.damaged;
      below = says.below;
      unpulled = refl;
      goes_on = record { source = omega arith; planned = omega arith; volume = says.later };
    })
    stopped))

pub returns-in_err-cut : goal.returns-in_err-cut
returns-in_err-cut g c =
    let job = job_from c.args.job.now in
    let old : World = record {
      supply = g.S.Source.supply c.args.source.now;
      source_faults = g.S.Source.faults c.args.source.now;
      plan_faults = g.S.Source.plan_faults c.args.source.now;
      disk = g.V.Volume.disk c.args.volume.now;
      volume_faults = g.V.Volume.faults c.args.volume.now;
    } in
    let mid : World = record {
      supply = g.S.Source.supply c.cut_over.new.source;
      source_faults = g.S.Source.faults c.cut_over.new.source;
      plan_faults = g.S.Source.plan_faults c.cut_over.new.source;
      disk = g.V.Volume.disk c.settle_and_load.new.volume;
      volume_faults = g.V.Volume.faults c.settle_and_load.new.volume;
    } in
    let says : EntrySays job.name old.disk mid.disk old.volume_faults mid.volume_faults =
    subst (λ (n : List ℕ). EntrySays n old.disk mid.disk old.volume_faults mid.volume_faults) c.as_str.ensures
    (record {
      alike = c.settle_and_load.ensures.alike;
      names = c.settle_and_load.ensures.readers;
      staged = c.settle_and_load.ensures.unstages;
      damaged = c.settle_and_load.ensures.damaged;
      below = c.settle_and_load.ensures.below;
      later = c.settle_and_load.ensures.goes_on;
    }) in
    let found : AddsMaps (Finds job.name c.in_ok-loaded.loaded) old.disk mid.disk =
    subst (λ (n : List ℕ). AddsMaps (Finds n c.in_ok-loaded.loaded) old.disk mid.disk) c.as_str.ensures
    c.in_ok-loaded.ensures.found in
    let fault = c.in_err-cut.field-0.0 in
    let p = err_from_is_err_and c.from_residual-in_err-cut.result c.from_residual-in_err-cut.ensures.1 in
    subst (λ (failing : List ℕ). RunAnswered job failing c.from_residual-in_err-cut.result old mid)
    (sym c.requires.none)
    (at_err (λ (a : Answer). RunAnswered job [] a old mid) c.from_residual-in_err-cut.result p.0 fault p.1 p.2
    (refused_at_cut job c.in_ok-loaded.loaded fault old mid
    (record {
      alike = says.alike;
      names = says.names;
      staged = says.staged;
      damaged = says.damaged;
      below = says.below;
      unpulled = c.cut_over.ensures.supply;
      goes_on = record {
        source = c.cut_over.ensures.source;
        planned = c.cut_over.ensures.planned;
        volume = says.later;
      };
    })
    found c.in_err-cut.ensures.stopped))

pub work_on-requires-clause-closed : goal.work_on-requires-clause-closed
work_on-requires-clause-closed g c =
    closed_of c.args.job.now.name c.in_ok-loaded.loaded (g.V.Volume.disk c.args.volume.now)
    (g.V.Volume.disk c.settle_and_load.new.volume)
    (subst (λ (n : List ℕ). AddsMaps (Finds n c.in_ok-loaded.loaded) (g.V.Volume.disk c.args.volume.now)
    (g.V.Volume.disk c.settle_and_load.new.volume)) c.as_str.ensures c.in_ok-loaded.ensures.found)

pub returns-in_err-outcome : goal.returns-in_err-outcome
returns-in_err-outcome g c =
    let job = job_from c.args.job.now in
    let old : World = record {
      supply = g.S.Source.supply c.args.source.now;
      source_faults = g.S.Source.faults c.args.source.now;
      plan_faults = g.S.Source.plan_faults c.args.source.now;
      disk = g.V.Volume.disk c.args.volume.now;
      volume_faults = g.V.Volume.faults c.args.volume.now;
    } in
    let mid : World = record {
      supply = g.S.Source.supply c.cut_over.new.source;
      source_faults = g.S.Source.faults c.cut_over.new.source;
      plan_faults = g.S.Source.plan_faults c.cut_over.new.source;
      disk = g.V.Volume.disk c.settle_and_load.new.volume;
      volume_faults = g.V.Volume.faults c.settle_and_load.new.volume;
    } in
    let new : World = record {
      supply = g.S.Source.supply c.work_on.new.source;
      source_faults = g.S.Source.faults c.work_on.new.source;
      plan_faults = g.S.Source.plan_faults c.work_on.new.source;
      disk = g.V.Volume.disk c.work_on.new.volume;
      volume_faults = g.V.Volume.faults c.work_on.new.volume;
    } in
    let says : EntrySays job.name old.disk mid.disk old.volume_faults mid.volume_faults =
    subst (λ (n : List ℕ). EntrySays n old.disk mid.disk old.volume_faults mid.volume_faults) c.as_str.ensures
    (record {
      alike = c.settle_and_load.ensures.alike;
      names = c.settle_and_load.ensures.readers;
      staged = c.settle_and_load.ensures.unstages;
      damaged = c.settle_and_load.ensures.damaged;
      below = c.settle_and_load.ensures.below;
      later = c.settle_and_load.ensures.goes_on;
    }) in
    let found : AddsMaps (Finds job.name c.in_ok-loaded.loaded) old.disk mid.disk =
    subst (λ (n : List ℕ). AddsMaps (Finds n c.in_ok-loaded.loaded) old.disk mid.disk) c.as_str.ensures
    c.in_ok-loaded.ensures.found in
    let p = err_from_is_err_and c.from_residual-in_err-outcome.result c.from_residual-in_err-outcome.ensures.1 in
    at_err (λ (a : Answer). RunAnswered job c.work_on.new.failed a old new) c.from_residual-in_err-outcome.result p.0
    c.in_err-outcome.field-0.0 p.1 p.2
    (answered_behind_work job c.work_on.new.failed c.in_ok-loaded.loaded c.in_ok-cut.cut
    (Err c.in_err-outcome.field-0.0) old mid new
    (record {
      right = c.requires.right;
      found = found;
      alike = says.alike;
      names = says.names;
      staged = says.staged;
      below = says.below;
      fits = c.in_ok-cut.ensures.cut;
      supply = c.cut_over.ensures.supply;
      goes_on = record {
        source = c.cut_over.ensures.source;
        planned = c.cut_over.ensures.planned;
        volume = says.later;
      };
    })
    c.in_err-outcome.ensures.worked c.work_on.ensures.idle)

pub returns : goal.returns
returns g c =
    let job = job_from c.args.job.now in
    let old : World = record {
      supply = g.S.Source.supply c.args.source.now;
      source_faults = g.S.Source.faults c.args.source.now;
      plan_faults = g.S.Source.plan_faults c.args.source.now;
      disk = g.V.Volume.disk c.args.volume.now;
      volume_faults = g.V.Volume.faults c.args.volume.now;
    } in
    let mid : World = record {
      supply = g.S.Source.supply c.cut_over.new.source;
      source_faults = g.S.Source.faults c.cut_over.new.source;
      plan_faults = g.S.Source.plan_faults c.cut_over.new.source;
      disk = g.V.Volume.disk c.settle_and_load.new.volume;
      volume_faults = g.V.Volume.faults c.settle_and_load.new.volume;
    } in
    let new : World = record {
      supply = g.S.Source.supply c.work_on.new.source;
      source_faults = g.S.Source.faults c.work_on.new.source;
      plan_faults = g.S.Source.plan_faults c.work_on.new.source;
      disk = g.V.Volume.disk c.work_on.new.volume;
      volume_faults = g.V.Volume.faults c.work_on.new.volume;
    } in
    let says : EntrySays job.name old.disk mid.disk old.volume_faults mid.volume_faults =
    subst (λ (n : List ℕ). EntrySays n old.disk mid.disk old.volume_faults mid.volume_faults) c.as_str.ensures
    (record {
      alike = c.settle_and_load.ensures.alike;
      names = c.settle_and_load.ensures.readers;
      staged = c.settle_and_load.ensures.unstages;
      damaged = c.settle_and_load.ensures.damaged;
      below = c.settle_and_load.ensures.below;
      later = c.settle_and_load.ensures.goes_on;
    }) in
    let found : AddsMaps (Finds job.name c.in_ok-loaded.loaded) old.disk mid.disk =
    subst (λ (n : List ℕ). AddsMaps (Finds n c.in_ok-loaded.loaded) old.disk mid.disk) c.as_str.ensures
    c.in_ok-loaded.ensures.found in
    answered_behind_work job c.work_on.new.failed c.in_ok-loaded.loaded c.in_ok-cut.cut
    (Ok c.in_ok-outcome.outcome) old mid new
    (record {
      right = c.requires.right;
      found = found;
      alike = says.alike;
      names = says.names;
      staged = says.staged;
      below = says.below;
      fits = c.in_ok-cut.ensures.cut;
      supply = c.cut_over.ensures.supply;
      goes_on = record {
        source = c.cut_over.ensures.source;
        planned = c.cut_over.ensures.planned;
        volume = says.later;
      };
    })
    c.in_ok-outcome.ensures.worked c.work_on.ensures.idle
