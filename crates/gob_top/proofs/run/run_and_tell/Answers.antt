use Rattle.gob_top.proofs.Running.{all_told}
use Rattle.gob_top.proofs.run.run_and_tell.Goals as goal

pub report_text-requires-clause-committed : goal.report_text-requires-clause-committed
report_text-requires-clause-committed g c =
    let out = c.in_ok-outcome.outcome in
    let fits = c.in_ok-outcome.ensures.done.fits in
    all_told out.units out.results _ out.committed fits.results fits.committed
