use Rattle.gob_meaning.proofs.Computed.{cast_table, read_table, write_table}
use Rattle.gob_meaning.proofs.tables_of_values.Goals as goal

pub returns-clause-casts : goal.returns-clause-casts
returns-clause-casts c = cast_table

pub returns-clause-read : goal.returns-clause-read
returns-clause-read c = read_table

pub returns-clause-written : goal.returns-clause-written
returns-clause-written c = write_table
