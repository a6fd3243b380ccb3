use Rattle.std.proofs.Common.{◌≡◌, ◌++◌, map, drop}
use Rattle.gob_recovery.specs.Sequence.{remove}
use Rattle.gob_seq.specs.Steps.{commit_step_of}
use Rattle.gob_commit.proofs.sequence.push_removes.Given as goal

abbrev pub invariant-loop-name : goal.invariant-loop-name
invariant-loop-name l =
    map commit_step_of l.steps ++ map remove (drop l.name-index l.names)
    ≡ map commit_step_of l.initial.steps ++ map remove l.names
