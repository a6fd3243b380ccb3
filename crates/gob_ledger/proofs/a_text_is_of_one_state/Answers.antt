use Rattle.gob_ledger.proofs.ReadingState.{one_spelling}
use Rattle.gob_ledger.proofs.a_text_is_of_one_state.Goals as goal

pub returns : goal.returns
returns c = one_spelling
