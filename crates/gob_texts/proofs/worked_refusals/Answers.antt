use Rattle.gob_texts.proofs.Examples.{refusals}
use Rattle.gob_texts.proofs.worked_refusals.Goals as goal

pub returns : goal.returns
returns c = refusals
