use Rattle.gob_recovery.proofs.Examples.{between_moves}
use Rattle.gob_recovery.proofs.a_commit_between_its_moves.Goals as goal

pub returns : goal.returns
returns c = between_moves
