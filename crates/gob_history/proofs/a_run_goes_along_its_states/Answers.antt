use Rattle.gob_history.proofs.Goes.{goes}
use Rattle.gob_history.proofs.a_run_goes_along_its_states.Goals as goal

pub returns : goal.returns
returns c = goes
