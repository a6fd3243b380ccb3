use Rattle.gob_history_examples.proofs.Unsynced.{stands_for_nothing}
use Rattle.gob_history_examples.proofs.an_unsynced_state_stands_for_nothing.Goals as goal

pub returns : goal.returns
returns c = stands_for_nothing
