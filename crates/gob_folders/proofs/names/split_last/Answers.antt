use Rattle.gob_folders.proofs.Slashes.{split_at_slash}
use Rattle.gob_folders.proofs.names.split_last.Goals as goal

pub returns : goal.returns
returns c = split_at_slash _ _ c.rsplit_once.ensures.cases
