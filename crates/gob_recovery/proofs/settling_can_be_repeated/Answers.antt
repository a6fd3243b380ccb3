use Rattle.gob_recovery.proofs.Again.{settling_repeats}
use Rattle.gob_recovery.proofs.settling_can_be_repeated.Goals as goal

pub returns : goal.returns
returns c = settling_repeats
