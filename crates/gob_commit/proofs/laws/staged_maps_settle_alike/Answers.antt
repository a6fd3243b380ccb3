use Rattle.gob_commit.proofs.Doing.{staged_alike}
use Rattle.gob_commit.proofs.laws.staged_maps_settle_alike.Goals as goal

pub returns : goal.returns
returns c = staged_alike
