use Rattle.gob_stage.proofs.Folders.{attempts_staged}
use Rattle.gob_stage.proofs.laws.attempts_are_staged.Goals as goal

pub returns : goal.returns
returns c = attempts_staged
