use Rattle.std.proofs.Common.{ap, ◌∙◌}
use Rattle.std.proofs.lemmas.Result.{err_from_is_err_and}
use Rattle.gob_report.specs.Refusals.{told_as}
use Rattle.gob_texts.specs.Commands.{state_report}
use Rattle.gob_top.proofs.Settling.{all_reported, not_reported, report_starved}
use Rattle.gob_top.proofs.Telling.{told_stopped}
use Rattle.gob_top.proofs.report.report.Goals as goal

pub returns-in_err-loaded : goal.returns-in_err-loaded
returns-in_err-loaded g c = λ w.
    let p = err_from_is_err_and c.from_residual.result c.from_residual.ensures.1 in
    let s = c.in_err-loaded.ensures in
    not_reported c.args.job.now w _ _ _ _ c.in_err-loaded.field-0.0 _
    (record {
      images = s.alike;
      names = s.readers;
      staged = s.unstages;
      damaged = s.damaged;
      below = s.below;
      later = s.goes_on;
    }) s.stopped
    s.due
    (told_stopped p.1 p.2)

pub returns-in_err-text : goal.returns-in_err-text
returns-in_err-text g c = λ w.
    let p = err_from_is_err_and c.from_residual-in_err-text.result c.from_residual-in_err-text.ensures.1 in
    let s = c.in_ok-loaded.ensures in
    report_starved c.args.job.now w _ _ _ _ c.in_ok-loaded.loaded _
    (record {
      images = s.alike;
      names = s.readers;
      staged = s.unstages;
      damaged = s.damaged;
      below = s.below;
      later = s.goes_on;
    }) s.due
    (told_stopped p.1 (ap told_as p.2))

pub returns : goal.returns
returns g c = λ w.
    let s = c.in_ok-loaded.ensures in
    all_reported c.args.job.now w _ _ _ _ c.in_ok-loaded.loaded _
    (record {
      images = s.alike;
      names = s.readers;
      staged = s.unstages;
      damaged = s.damaged;
      below = s.below;
      later = s.goes_on;
    }) s.due
    s.found
    (λ i. (0, (c.in_ok-text.ensures ∙ ap (state_report c.args.job.now) c.as_ref.ensures.value) i))
