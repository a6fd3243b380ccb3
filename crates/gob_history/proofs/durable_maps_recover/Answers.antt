use Rattle.gob_history.proofs.Stands.{standing}
use Rattle.gob_history.proofs.durable_maps_recover.Goals as goal

pub returns : goal.returns
returns c = standing
