use Rattle.std.proofs.Common.{◌≡◌, ◌≤◌, true, map, take, IfSome}
use Rattle.std.specs.List.{list_all}
use Rattle.gob_recovery.specs.Settle.{can_do}
use Rattle.gob_seq.specs.Steps.{commit_step_of}
use Rattle.gob_seq.proofs.steps.first_lost.Given as goal

abbrev pub invariant-loop-step : goal.invariant-loop-step
invariant-loop-step g l = record {
  can : IfSome (g.V.Volume.disk l.initial.volume) (λ d. list_all (can_do d.files)
      (take l.step-index (map commit_step_of l.steps)) ≡ true);
  same : g.V.Volume.disk l.volume ≡ g.V.Volume.disk l.initial.volume;
  goes_on : g.V.Volume.faults l.initial.volume ≤ g.V.Volume.faults l.volume;
}
