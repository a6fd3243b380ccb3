use Rattle.gob_meaning.proofs.StepRows.{step_keeps, steps_keep}
use Rattle.gob_meaning.proofs.FormatRows.{format_keeps, read_is_written}
use Rattle.gob_meaning.proofs.Fits.{tests_fit}
use Rattle.gob_meaning.proofs.rows_conform.Goals as goal

pub returns-clause-steps : goal.returns-clause-steps
returns-clause-steps c = step_keeps

pub returns-clause-chains : goal.returns-clause-chains
returns-clause-chains c = steps_keep

pub returns-clause-formats : goal.returns-clause-formats
returns-clause-formats c = format_keeps

pub returns-clause-tests : goal.returns-clause-tests
returns-clause-tests c = tests_fit

pub returns-clause-read_is_written : goal.returns-clause-read_is_written
returns-clause-read_is_written c = read_is_written
