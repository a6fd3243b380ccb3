use Rattle.gob_meaning.proofs.Computed.{compare_table, check_table, fit_table}
use Rattle.gob_meaning.proofs.tables_of_tests.Goals as goal

pub returns-clause-comparisons : goal.returns-clause-comparisons
returns-clause-comparisons c = compare_table

pub returns-clause-checks : goal.returns-clause-checks
returns-clause-checks c = check_table

pub returns-clause-fits : goal.returns-clause-fits
returns-clause-fits c = fit_table
