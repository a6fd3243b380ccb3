use Rattle.gob_history.proofs.Along.{stands_along}
use Rattle.gob_history.proofs.history_law.Goals as goal

pub returns : goal.returns
returns c = stands_along
