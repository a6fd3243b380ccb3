use Rattle.gob_pipeline.proofs.Lines.{line_fed, rest_fed, passed_fed}
use Rattle.gob_pipeline.proofs.laws.steps_feed_a_machine.Goals as goal

pub returns-clause-ends : goal.returns-clause-ends
returns-clause-ends c = line_fed

pub returns-clause-rests : goal.returns-clause-rests
returns-clause-rests c = rest_fed

pub returns-clause-stopped : goal.returns-clause-stopped
returns-clause-stopped c = passed_fed
