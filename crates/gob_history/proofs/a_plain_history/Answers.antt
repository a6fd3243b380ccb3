use Rattle.gob_history.proofs.Examples.{example}
use Rattle.gob_history.proofs.a_plain_history.Goals as goal

pub returns : goal.returns
returns c = example
