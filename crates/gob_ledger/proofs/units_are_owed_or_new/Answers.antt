use Rattle.gob_ledger.proofs.Losing.{units_are}
use Rattle.gob_ledger.proofs.units_are_owed_or_new.Goals as goal

pub returns : goal.returns
returns c = units_are
