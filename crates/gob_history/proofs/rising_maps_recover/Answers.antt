use Rattle.gob_history.proofs.Rising.{rises_stand}
use Rattle.gob_history.proofs.rising_maps_recover.Goals as goal

pub returns : goal.returns
returns c = rises_stand
