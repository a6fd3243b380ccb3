use Rattle.gob_ledger.proofs.Tiling.{tiles}
use Rattle.gob_ledger.proofs.next_state_is_tiled.Goals as goal

pub returns : goal.returns
returns c = tiles
