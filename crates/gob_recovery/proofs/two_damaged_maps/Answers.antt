use Rattle.gob_recovery.proofs.Examples.{worked_damage}
use Rattle.gob_recovery.proofs.two_damaged_maps.Goals as goal

pub returns : goal.returns
returns c = worked_damage
