use Rattle.std.proofs.Common.{◌≡◌, map, take}
use Rattle.gob_stage.specs.Attempt.{staged_entry}
use Rattle.gob_stage.proofs.attempt.staged_list.Given as goal

abbrev pub invariant-loop-target : goal.invariant-loop-target
invariant-loop-target l = l.list ≡ map (staged_entry l.job) (take l.target-index l.files)
