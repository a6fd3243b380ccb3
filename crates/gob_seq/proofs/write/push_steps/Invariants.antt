use Rattle.std.proofs.Common.{◌≡◌, ◌++◌, map, take}
use Rattle.std.specs.List.{flat_map}
use Rattle.gob_recovery.specs.Sequence.{step_line}
use Rattle.gob_seq.specs.Steps.{commit_step_of}
use Rattle.gob_seq.proofs.write.push_steps.Given as goal

abbrev pub invariant-loop-step : goal.invariant-loop-step
invariant-loop-step l = l.into.items ≡ l.fn.into.items ++ flat_map step_line
    (take l.step-index (map commit_step_of l.steps))
