use Rattle.gob_ledger.proofs.Grown.{grown}
use Rattle.gob_ledger.proofs.grown_archive_says_the_same.Goals as goal

pub returns : goal.returns
returns c = grown
