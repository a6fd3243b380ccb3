use Rattle.gob_ledger.proofs.Pieces.{few_turns}
use Rattle.gob_ledger.proofs.turns_are_few.Goals as goal

pub returns : goal.returns
returns c = few_turns
