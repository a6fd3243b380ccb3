use Rattle.std.proofs.Common.{flat_map, take}
use Rattle.gob_pipeline.specs.Made.{filled_place}
use Rattle.gob_task.specs.Staging.{appends_of}
use Rattle.gob_task.specs.Task.{AreSpelled}
use Rattle.gob_task.proofs.Appended.{SoFar}
use Rattle.gob_task.proofs.staging.stage_slot.Given as goal

abbrev pub invariant-loop-place : goal.invariant-loop-place
invariant-loop-place g l = record {
  so_far : SoFar (appends_of l.plan l.unit (flat_map (filled_place l.slot) (take l.place-index l.places)))
      l.initial.staged l.staged (g.V.Volume.disk l.initial.volume) (g.V.Volume.disk l.volume)
      (g.V.Volume.faults l.initial.volume) (g.V.Volume.faults l.volume);
  spelled : AreSpelled l.plan l.unit l.names;
}
