use Rattle.gob_jobs.proofs.Unknown.{unknown_told}
use Rattle.gob_jobs.proofs.unknown_keys_are_told.Goals as goal

pub returns : goal.returns
returns c = unknown_told
