use Rattle.std.proofs.Common.{◌≡◌, map, take}
use Rattle.std.specs.List.{flat_map}
use Rattle.gob_recovery.specs.Sequence.{names_in}
use Rattle.gob_seq.specs.Steps.{commit_step_of}
use Rattle.gob_seq.proofs.sequence.names_in.Given as goal

abbrev pub invariant-loop-step : goal.invariant-loop-step
invariant-loop-step l = map (λ n. n.now) l.names.items ≡ flat_map names_in
    (take l.step-index (map commit_step_of l.steps))
