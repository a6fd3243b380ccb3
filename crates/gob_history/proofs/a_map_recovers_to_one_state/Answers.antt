use Rattle.gob_history.proofs.OneState.{recovers_to_one}
use Rattle.gob_history.proofs.a_map_recovers_to_one_state.Goals as goal

pub returns : goal.returns
returns c = recovers_to_one
