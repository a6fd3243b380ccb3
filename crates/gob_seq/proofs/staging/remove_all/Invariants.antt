use Rattle.std.proofs.Common.{map, ◌≤◌}
use Rattle.gob_device.specs.Disk.{AddsMaps}
use Rattle.gob_recovery.specs.Sequence.{remove}
use Rattle.gob_seq.proofs.Fronts.{DoneUpTo}
use Rattle.gob_seq.proofs.staging.remove_all.Given as goal

abbrev pub invariant-loop-name : goal.invariant-loop-name
invariant-loop-name g l = record {
  maps : AddsMaps (DoneUpTo (map remove l.names) l.name-index) (g.V.Volume.disk l.initial.volume)
      (g.V.Volume.disk l.volume);
  goes_on : g.V.Volume.faults l.initial.volume ≤ g.V.Volume.faults l.volume;
}
