use Rattle.gob_ledger.proofs.Keeping.{changes_numbered}
use Rattle.gob_ledger.proofs.changes_are_numbered.Goals as goal

pub returns : goal.returns
returns c = changes_numbered
