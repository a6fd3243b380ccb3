use Rattle.gob_jobs.proofs.ElementTables.{element_tables}
use Rattle.gob_jobs.proofs.elements_read.Goals as goal

pub returns : goal.returns
returns c = element_tables
