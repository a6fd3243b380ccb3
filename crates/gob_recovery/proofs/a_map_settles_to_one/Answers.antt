use Rattle.gob_recovery.proofs.Spelled.{to_one}
use Rattle.gob_recovery.proofs.a_map_settles_to_one.Goals as goal

pub returns : goal.returns
returns c = to_one
