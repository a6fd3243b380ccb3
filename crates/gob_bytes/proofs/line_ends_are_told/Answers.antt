use Rattle.gob_bytes.proofs.Cuts as cuts
use Rattle.gob_bytes.proofs.line_ends_are_told.Goals as goal

pub returns : goal.returns
returns c = cuts.ends_told
