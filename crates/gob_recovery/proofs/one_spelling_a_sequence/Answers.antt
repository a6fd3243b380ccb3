use Rattle.gob_recovery.proofs.Spelled.{spelling}
use Rattle.gob_recovery.proofs.one_spelling_a_sequence.Goals as goal

pub returns : goal.returns
returns c = spelling
