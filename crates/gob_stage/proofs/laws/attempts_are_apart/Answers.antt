use Rattle.gob_stage.proofs.Folders.{attempts_apart}
use Rattle.gob_stage.proofs.laws.attempts_are_apart.Goals as goal

pub returns : goal.returns
returns c = attempts_apart
