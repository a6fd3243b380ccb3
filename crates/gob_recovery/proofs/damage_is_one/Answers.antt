use Rattle.gob_recovery.proofs.Damaged.{one_damage}
use Rattle.gob_recovery.proofs.damage_is_one.Goals as goal

pub returns : goal.returns
returns c = one_damage
