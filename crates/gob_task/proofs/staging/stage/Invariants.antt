use Rattle.gob_task.specs.Staging.{appends_of}
use Rattle.gob_task.specs.Task.{AreSpelled}
use Rattle.gob_task.proofs.Appended.{SoFar}
use Rattle.gob_task.proofs.Slots.{AreSlotsTo, filled_front}
use Rattle.gob_task.proofs.staging.stage.Given as goal

abbrev pub invariant-loop-slot : goal.invariant-loop-slot
invariant-loop-slot g l = record {
  so_far : SoFar (appends_of l.plan l.unit (filled_front l.slot l.buffers)) l.initial.staged l.staged
      (g.V.Volume.disk l.initial.volume) (g.V.Volume.disk l.volume) (g.V.Volume.faults l.initial.volume)
      (g.V.Volume.faults l.volume);
  spelled : AreSpelled l.plan l.unit l.names;
  slots : AreSlotsTo l.slot l.buffers;
}
