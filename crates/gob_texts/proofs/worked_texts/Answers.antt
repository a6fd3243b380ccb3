use Rattle.gob_texts.proofs.Examples.{worked}
use Rattle.gob_texts.proofs.worked_texts.Goals as goal

pub returns : goal.returns
returns c = worked
