use Rattle.gob_stage.specs.Attempt.{AreThere}
use Rattle.gob_task.specs.Bench.{FitsBench}
use Rattle.gob_task.specs.Turn.{StandsAfter}
use Rattle.gob_task.specs.declared.task.Turn.TheVariants.{Going}
use Rattle.gob_volume.specs.MemVolume.{told_by}
use Rattle.gob_turns_tests.proofs.worked.last_turn.Given as goal

abbrev pub invariant-loop : goal.invariant-loop
invariant-loop l = record {
  stands : StandsAfter l.rules l.task Going;
  there : AreThere l.task.staged (told_by l.volume).files;
  bench : FitsBench l.rules l.bench;
}
