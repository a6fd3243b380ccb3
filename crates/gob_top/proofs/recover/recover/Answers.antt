use Rattle.std.proofs.Common.{ap, refl}
use Rattle.std.proofs.lemmas.Result.{err_from_is_err_and}
use Rattle.gob_report.specs.Refusals.{told_as}
use Rattle.gob_run.proofs.Settled.{stays_damaged}
use Rattle.gob_top.proofs.Settling.{all_recovered, not_recovered, recover_starved}
use Rattle.gob_top.proofs.Telling.{told_stopped}
use Rattle.gob_top.proofs.recover.recover.Goals as goal

pub returns-in_err-settled : goal.returns-in_err-settled
returns-in_err-settled g c = λ w.
    let p = err_from_is_err_and c.from_residual.result c.from_residual.ensures.1 in
    let s = c.in_err-settled.ensures in
    not_recovered c.args.job.now w _ _ _ _ c.in_err-settled.field-0.0 _
    (record {
      images = s.images;
      names = s.readers;
      staged = s.unstages;
      damaged = stays_damaged c.args.job.now _ s.readers s.due refl;
      below = s.below;
      later = s.goes_on;
    })
    s.damaged s.err s.due
    (told_stopped p.1 p.2)

pub returns-in_err-text : goal.returns-in_err-text
returns-in_err-text g c = λ w.
    let p = err_from_is_err_and c.from_residual-in_err-text.result c.from_residual-in_err-text.ensures.1 in
    let s = c.in_ok-settled.ensures in
    recover_starved c.args.job.now w _ _ _ _ c.in_ok-settled.settled _
    (record {
      images = s.images;
      names = s.readers;
      staged = s.unstages;
      damaged = stays_damaged c.args.job.now _ s.readers s.due refl;
      below = s.below;
      later = s.goes_on;
    }) s.due
    (told_stopped p.1 (ap told_as p.2))

pub returns : goal.returns
returns g c = λ w.
    let s = c.in_ok-settled.ensures in
    all_recovered c.args.job.now w _ _ _ _ c.in_ok-settled.settled _
    (record {
      images = s.images;
      names = s.readers;
      staged = s.unstages;
      damaged = stays_damaged c.args.job.now _ s.readers s.due refl;
      below = s.below;
      later = s.goes_on;
    }) s.due
    s.ok s.was_open
    (λ i. (0, c.in_ok-text.ensures i))
