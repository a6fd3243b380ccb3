use Rattle.std.proofs.Common.{◌<◌, ◌^◌, length, sym, subst, arith}
use Rattle.gob_ledger.specs.Spelling.{IsKeptPipeline}
use Rattle.gob_run.proofs.Fitting.{kept_pipeline}
use Rattle.gob_run.proofs.work.commit_rules.Goals as goal

pub returns-clause-kept : goal.returns-clause-kept
returns-clause-kept c =
    let small : length c.args.job.now.pipeline < 2 ^ 64 = omega arith in
    subst IsKeptPipeline (sym c.as_str-2.ensures)
    (kept_pipeline c.args.job.now.pipeline small c.requires.right.pipeline)
