use Rattle.gob_task.proofs.Published.{first_bytes_decide, pulled_are_first}
use Rattle.gob_task.proofs.laws.first_bytes_decide.Goals as goal

pub returns-clause-pulled : goal.returns-clause-pulled
returns-clause-pulled c = pulled_are_first

pub returns-clause-verdicts : goal.returns-clause-verdicts
returns-clause-verdicts c = first_bytes_decide
