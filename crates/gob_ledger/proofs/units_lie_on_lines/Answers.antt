use Rattle.gob_ledger.proofs.Cutting.{units_lie}
use Rattle.gob_ledger.proofs.units_lie_on_lines.Goals as goal

pub returns : goal.returns
returns c = units_lie
