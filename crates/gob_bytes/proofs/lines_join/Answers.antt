use Rattle.gob_bytes.proofs.Cuts as cuts
use Rattle.gob_bytes.proofs.lines_join.Goals as goal

pub returns : goal.returns
returns c = cuts.lines_join
