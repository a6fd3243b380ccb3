use Rattle.gob_ledger.proofs.Losing.{listed_held}
use Rattle.gob_ledger.proofs.listed_units_are_held.Goals as goal

pub returns : goal.returns
returns c = listed_held
