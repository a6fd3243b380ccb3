use Rattle.gob_meaning.proofs.Computed.{columns_table, rows_table, pieces_table, steps_table, chain_table}
use Rattle.gob_meaning.proofs.tables_of_steps.Goals as goal

pub returns-clause-columns : goal.returns-clause-columns
returns-clause-columns c = columns_table

pub returns-clause-rows : goal.returns-clause-rows
returns-clause-rows c = rows_table

pub returns-clause-pieces : goal.returns-clause-pieces
returns-clause-pieces c = pieces_table

pub returns-clause-in_turn : goal.returns-clause-in_turn
returns-clause-in_turn c = steps_table

pub returns-clause-chains : goal.returns-clause-chains
returns-clause-chains c = chain_table
