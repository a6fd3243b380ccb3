use Rattle.std.proofs.Common.{◌≡◌, true, map, take}
use Rattle.std.specs.List.{list_all}
use Rattle.gob_seq.specs.Steps.{fits_at, commit_step_of}
use Rattle.gob_seq.proofs.sequence.fit.Given as goal

abbrev pub invariant-loop-step : goal.invariant-loop-step
invariant-loop-step l = list_all (fits_at l.place) (take l.step-index (map commit_step_of l.steps)) ≡ true
