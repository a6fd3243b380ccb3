use Rattle.gob_pipeline.proofs.Cuts.{any_cut}
use Rattle.gob_pipeline.proofs.laws.any_cut_makes_the_same.Goals as goal

pub returns : goal.returns
returns c = any_cut
