use Rattle.gob_ledger.proofs.Grouping.{others_fit}
use Rattle.gob_ledger.proofs.other_groups_still_fit.Goals as goal

pub returns : goal.returns
returns c = others_fit
