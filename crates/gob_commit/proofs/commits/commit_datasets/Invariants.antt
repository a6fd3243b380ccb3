use Rattle.std.proofs.Common.{◌≤◌, []}
use Rattle.gob_bytes.specs.Paths.{under}
use Rattle.gob_device.specs.Disk.{Along}
use Rattle.gob_recovery.specs.Commits.{OnlyBelow}
use Rattle.gob_commit.proofs.Looping.{LoopSo}
use Rattle.gob_commit.proofs.commits.commit_datasets.Given as goal

abbrev pub invariant-loop-places : goal.invariant-loop-places
invariant-loop-places g l = record {
  so : LoopSo l.rules l.fn.loaded l.units l.results l.places-items l.places-index l.last
      (g.V.Volume.disk l.initial.volume) (g.V.Volume.disk l.volume);
  below : Along (OnlyBelow (under l.rules.job.now [])) (g.V.Volume.disk l.initial.volume) (g.V.Volume.disk l.volume);
  goes_on : g.V.Volume.faults l.initial.volume ≤ g.V.Volume.faults l.volume;
}
