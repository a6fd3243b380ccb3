use Rattle.gob_commit.proofs.Parts.{parts_keep}
use Rattle.gob_commit.proofs.laws.parts_keep_the_rest.Goals as goal

pub returns : goal.returns
returns c = parts_keep
