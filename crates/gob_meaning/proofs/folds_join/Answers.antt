use Rattle.gob_meaning.proofs.Joins.{fold_joins, parts_join}
use Rattle.gob_meaning.proofs.folds_join.Goals as goal

pub returns-clause-lines : goal.returns-clause-lines
returns-clause-lines c = fold_joins

pub returns-clause-parts : goal.returns-clause-parts
returns-clause-parts c = parts_join
