use Rattle.gob_turns.proofs.Having.{last_turn, no_turn, one_failure, one_more}
use Rattle.gob_turns.proofs.laws.turns_go_on.Goals as goal

pub returns-clause-first : goal.returns-clause-first
returns-clause-first c = no_turn

pub returns-clause-answered : goal.returns-clause-answered
returns-clause-answered c = one_more

pub returns-clause-failed : goal.returns-clause-failed
returns-clause-failed c = one_failure

pub returns-clause-last : goal.returns-clause-last
returns-clause-last c = last_turn
