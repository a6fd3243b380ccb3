use Rattle.gob_meaning.proofs.Fits.{fits_in_parts}
use Rattle.gob_pipeline_tests.proofs.bench.pipeline_in.Goals as goal

pub built-requires : goal.built-requires
built-requires c = (fits_in_parts c.in-Ok.job.plan).1 c.in-Ok.ensures.right.fitting
