use Rattle.gob_ledger.proofs.Cutting.{units_fit}
use Rattle.gob_ledger.proofs.units_fit_the_state.Goals as goal

pub returns : goal.returns
returns c = units_fit
