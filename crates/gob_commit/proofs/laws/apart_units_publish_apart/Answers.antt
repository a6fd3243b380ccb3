use Rattle.gob_commit.proofs.Names.{apart_units}
use Rattle.gob_commit.proofs.laws.apart_units_publish_apart.Goals as goal

pub returns : goal.returns
returns c = apart_units
