use Rattle.std.proofs.Common.{◌++◌, ap, ◌∙◌}
use Rattle.gob_state.specs.Committed.{verdicts_in}
use Rattle.gob_texts.specs.Refusals.{status_line}
use Rattle.gob_texts.specs.Report.{job_line, run_status}
use Rattle.gob_report.proofs.Called.{report_called}
use Rattle.gob_report.proofs.reports.report_text.Goals as goal

pub returns : goal.returns
returns c =
    let outcome = c.args.outcome.now in
    report_called c.args.job.now.name c.args.job.now.policy outcome.too_long outcome.units outcome.results
    outcome.committed outcome.after c.push_job.new.into.items c.push_outcome.new.into.items c.from_vec.result
    c.requires.results
    (c.in_ok-push_job.ensures
    ∙ (λ j. c.new-text.ensures.items j ++ job_line (c.as_str.ensures j) c.args.job.now.policy))
    c.in_ok-push_outcome.ensures
    (c.from_vec.ensures ∙ c.in_ok-push_status.ensures
    ∙ ap (λ n. c.push_outcome.new.into.items ++ status_line n)
    (c.run_status.ensures ∙ ap (λ rs. run_status (verdicts_in rs)) c.as_slice.ensures))
