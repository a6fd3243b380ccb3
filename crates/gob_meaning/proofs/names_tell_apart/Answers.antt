use Rattle.gob_meaning.proofs.Apart.{names_apart}
use Rattle.gob_meaning.proofs.Placed.{sent_is_placed}
use Rattle.gob_meaning.proofs.names_tell_apart.Goals as goal

pub returns-clause-apart : goal.returns-clause-apart
returns-clause-apart c = names_apart

pub returns-clause-placed : goal.returns-clause-placed
returns-clause-placed c = sent_is_placed
