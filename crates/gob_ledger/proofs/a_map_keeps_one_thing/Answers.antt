use Rattle.gob_ledger.proofs.OneState.{keeps_one}
use Rattle.gob_ledger.proofs.a_map_keeps_one_thing.Goals as goal

pub returns : goal.returns
returns c = keeps_one
