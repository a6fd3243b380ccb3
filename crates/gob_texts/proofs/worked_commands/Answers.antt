use Rattle.gob_texts.proofs.Examples.{commands}
use Rattle.gob_texts.proofs.worked_commands.Goals as goal

pub returns : goal.returns
returns c = commands
