use Rattle.gob_ledger.proofs.DecidingState.{written_back}
use Rattle.gob_ledger.proofs.what_is_written_reads_back.Goals as goal

pub returns : goal.returns
returns c = written_back
