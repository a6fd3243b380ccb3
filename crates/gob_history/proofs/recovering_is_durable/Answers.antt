use Rattle.gob_history.proofs.Steadied.{steadied}
use Rattle.gob_history.proofs.recovering_is_durable.Goals as goal

pub returns : goal.returns
returns c = steadied
