use Rattle.gob_commit.proofs.Doing.{one_more, uncommitted}
use Rattle.gob_commit.proofs.laws.one_more_is_done.Goals as goal

pub returns-clause-committed : goal.returns-clause-committed
returns-clause-committed c = one_more

pub returns-clause-uncommitted : goal.returns-clause-uncommitted
returns-clause-uncommitted c = uncommitted
