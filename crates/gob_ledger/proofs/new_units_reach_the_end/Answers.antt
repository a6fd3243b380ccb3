use Rattle.gob_ledger.proofs.Reaching.{reaches}
use Rattle.gob_ledger.proofs.new_units_reach_the_end.Goals as goal

pub returns : goal.returns
returns c = reaches
