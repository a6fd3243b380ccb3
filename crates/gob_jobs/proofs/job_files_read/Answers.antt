use Rattle.gob_jobs.proofs.KeyTables.{key_tables}
use Rattle.gob_jobs.proofs.job_files_read.Goals as goal

pub returns : goal.returns
returns c = key_tables
