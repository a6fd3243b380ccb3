use Rattle.gob_ledger.proofs.Following.{follows_next}
use Rattle.gob_ledger.proofs.next_state_follows.Goals as goal

pub returns : goal.returns
returns c = follows_next
