use Rattle.gob_meaning.proofs.Computed.{format_table, place_table, plan_table}
use Rattle.gob_meaning.proofs.tables_of_plans.Goals as goal

pub returns-clause-formats : goal.returns-clause-formats
returns-clause-formats c = format_table

pub returns-clause-places : goal.returns-clause-places
returns-clause-places c = place_table

pub returns-clause-plans : goal.returns-clause-plans
returns-clause-plans c = plan_table
