use Rattle.gob_ledger.proofs.Pieces.{own_pieces}
use Rattle.gob_ledger.proofs.own_pulls_are_pieces.Goals as goal

pub returns : goal.returns
returns c = own_pieces
