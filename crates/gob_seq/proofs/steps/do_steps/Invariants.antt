use Rattle.std.proofs.Common.{map, ◌≤◌}
use Rattle.gob_device.specs.Disk.{AddsMaps}
use Rattle.gob_seq.specs.Steps.{commit_step_of}
use Rattle.gob_seq.proofs.Fronts.{DoneUpTo}
use Rattle.gob_seq.proofs.steps.do_steps.Given as goal

abbrev pub invariant-loop-step : goal.invariant-loop-step
invariant-loop-step g l = record {
  maps : AddsMaps (DoneUpTo (map commit_step_of l.steps) l.step-index) (g.V.Volume.disk l.initial.volume)
      (g.V.Volume.disk l.volume);
  goes_on : g.V.Volume.faults l.initial.volume ≤ g.V.Volume.faults l.volume;
}
