use Rattle.std.proofs.Common.{map, string_bytes, codes}
use Rattle.gob_top.proofs.Called.{words_named, words_pathname}
use Rattle.gob_top.proofs.Commanding.{check_answered, recover_answered, report_answered, run_answered}
use Rattle.gob_top.proofs.top.do_command.Goals as goal

pub run-requires : goal.run-requires
run-requires g c =
    let asked = rw c.in-Some-Run.field-0-is at c.in-Some-Run.ensures in
    let words = map string_bytes c.args.words.now in
    record { named = words_named (codes "run") words c.in-Some-Run.job.now asked }

pub recover-requires : goal.recover-requires
recover-requires g c =
    let asked = rw c.in-Some-Recover.field-0-is at c.in-Some-Recover.ensures in
    let words = map string_bytes c.args.words.now in
    record { named = words_pathname (codes "recover") words c.in-Some-Recover.job.now asked.1 }

pub report-requires : goal.report-requires
report-requires g c =
    let asked = rw c.in-Some-Report.field-0-is at c.in-Some-Report.ensures in
    let words = map string_bytes c.args.words.now in
    record { named = words_pathname (codes "report") words c.in-Some-Report.job.now asked.2 }

pub check-requires : goal.check-requires
check-requires g c =
    let asked = rw c.in-Some-Check.field-0-is at c.in-Some-Check.ensures in
    let words = map string_bytes c.args.words.now in
    record { named = words_pathname (codes "check") words c.in-Some-Check.job.now asked.3 }

pub returns-in-Some-Run : goal.returns-in-Some-Run
returns-in-Some-Run g c =
    let asked = rw c.in-Some-Run.field-0-is at c.in-Some-Run.ensures in
    run_answered (map string_bytes c.args.words.now) c.in-Some-Run.job.now _ _ _ asked c.run.ensures

pub returns-in-Some-Recover : goal.returns-in-Some-Recover
returns-in-Some-Recover g c =
    let asked = rw c.in-Some-Recover.field-0-is at c.in-Some-Recover.ensures in
    recover_answered (map string_bytes c.args.words.now) c.in-Some-Recover.job.now _ _ _ asked
    (c.recover.ensures (record {
      supply = g.S.Source.supply c.args.source.now;
      source_faults = g.S.Source.faults c.args.source.now;
      plan_faults = g.S.Source.plan_faults c.args.source.now;
      disk = g.V.Volume.disk c.args.volume.now;
      volume_faults = g.V.Volume.faults c.args.volume.now;
    }))

pub returns-in-Some-Report : goal.returns-in-Some-Report
returns-in-Some-Report g c =
    let asked = rw c.in-Some-Report.field-0-is at c.in-Some-Report.ensures in
    report_answered (map string_bytes c.args.words.now) c.in-Some-Report.job.now _ _ _ asked
    (c.report.ensures (record {
      supply = g.S.Source.supply c.args.source.now;
      source_faults = g.S.Source.faults c.args.source.now;
      plan_faults = g.S.Source.plan_faults c.args.source.now;
      disk = g.V.Volume.disk c.args.volume.now;
      volume_faults = g.V.Volume.faults c.args.volume.now;
    }))

pub returns-in-Some-Check : goal.returns-in-Some-Check
returns-in-Some-Check g c =
    let asked = rw c.in-Some-Check.field-0-is at c.in-Some-Check.ensures in
    check_answered (map string_bytes c.args.words.now) c.in-Some-Check.job.now _ _ _ asked
    (c.check.ensures (record {
      supply = g.S.Source.supply c.args.source.now;
      source_faults = g.S.Source.faults c.args.source.now;
      plan_faults = g.S.Source.plan_faults c.args.source.now;
      disk = g.V.Volume.disk c.args.volume.now;
      volume_faults = g.V.Volume.faults c.args.volume.now;
    }))
