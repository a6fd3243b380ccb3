use Rattle.gob_commit.proofs.Doing.{all_done, goes_along}
use Rattle.gob_commit.proofs.laws.what_is_done_is_the_run.Goals as goal

pub returns-clause-stopped : goal.returns-clause-stopped
returns-clause-stopped c = goes_along

pub returns-clause-ended : goal.returns-clause-ended
returns-clause-ended c = all_done
