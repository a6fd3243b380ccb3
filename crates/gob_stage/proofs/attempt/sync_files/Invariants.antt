use Rattle.std.proofs.Common.{◌≤◌, map}
use Rattle.gob_stage.proofs.Syncs.{Syncs}
use Rattle.gob_stage.proofs.attempt.sync_files.Given as goal

abbrev pub invariant-loop-name : goal.invariant-loop-name
invariant-loop-name g l = record {
  synced : Syncs (map (λ e. e.1) l.files) l.name-index (g.V.Volume.disk l.initial.volume) (g.V.Volume.disk l.volume);
  later : g.V.Volume.faults l.initial.volume ≤ g.V.Volume.faults l.volume;
}
