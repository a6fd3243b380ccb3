use Rattle.gob_ledger.proofs.Attempts.{only_listed}
use Rattle.gob_ledger.proofs.only_listed_units_have_turns.Goals as goal

pub returns : goal.returns
returns c = only_listed
