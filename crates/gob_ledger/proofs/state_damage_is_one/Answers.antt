use Rattle.gob_ledger.proofs.OneDamage.{damage_is_one}
use Rattle.gob_ledger.proofs.state_damage_is_one.Goals as goal

pub returns : goal.returns
returns c = damage_is_one
