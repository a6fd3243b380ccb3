use Rattle.gob_commit.proofs.Doing.{nothing_first}
use Rattle.gob_commit.proofs.laws.nothing_is_done_at_first.Goals as goal

pub returns : goal.returns
returns c = nothing_first
