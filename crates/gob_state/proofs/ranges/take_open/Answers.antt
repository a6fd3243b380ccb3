use Rattle.std.proofs.Common.{refl, Some, None}
use Rattle.gob_state.proofs.RangeLemmas.{open_renaming}
use Rattle.gob_state.proofs.Steps.{renamed}
use Rattle.gob_state.proofs.ranges.take_open.Goals as goal

pub returns-in_err-lo : goal.returns-in_err-lo
returns-in_err-lo c = renamed open_renaming _ _ None _ c.in_err-lo.ensures c.from_residual.ensures

pub returns : goal.returns
returns c = renamed open_renaming _ _ (Some (c.in_ok-lo.lo, c.in_ok-lo.hi)) _ c.in_ok-lo.ensures refl
