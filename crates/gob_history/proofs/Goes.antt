-- The maps of a run go along its states.
use Rattle.gob_history.specs.Laws.{RunGoesAlong}
use Rattle.gob_history.proofs.Composes.{goes_along}
use Rattle.gob_history.proofs.Left.{groups_steady}

pub goes : RunGoesAlong
goes = goes_along groups_steady
