use Rattle.gob_meaning.proofs.Computed.{ruling_table, fork_table, sent_table, target_table, sum_table, rule_table}
use Rattle.gob_meaning.proofs.Computed.{result_table, gone_unit, stop_table, name_table}
use Rattle.gob_meaning.proofs.tables_of_units.Goals as goal

pub returns-clause-rulings : goal.returns-clause-rulings
returns-clause-rulings c = ruling_table

pub returns-clause-forks : goal.returns-clause-forks
returns-clause-forks c = fork_table

pub returns-clause-sent : goal.returns-clause-sent
returns-clause-sent c = sent_table

pub returns-clause-targets : goal.returns-clause-targets
returns-clause-targets c = target_table

pub returns-clause-sums : goal.returns-clause-sums
returns-clause-sums c = sum_table

pub returns-clause-rules : goal.returns-clause-rules
returns-clause-rules c = rule_table

pub returns-clause-results : goal.returns-clause-results
returns-clause-results c = result_table

pub returns-clause-gone : goal.returns-clause-gone
returns-clause-gone c = gone_unit

pub returns-clause-stops : goal.returns-clause-stops
returns-clause-stops c = stop_table

pub returns-clause-names : goal.returns-clause-names
returns-clause-names c = name_table
