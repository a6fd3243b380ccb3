use Rattle.std.proofs.Common.{◌≡◌, ◌++◌, map, drop}
use Rattle.gob_history.specs.Laws.{moves_of}
use Rattle.gob_seq.specs.Steps.{commit_step_of}
use Rattle.gob_commit.specs.Staged.{lent_pair}
use Rattle.gob_commit.proofs.sequence.moves_in_order.Given as goal

abbrev pub invariant-loop-to : goal.invariant-loop-to
invariant-loop-to l =
    map commit_step_of l.steps ++ moves_of (map lent_pair (drop l.to-index l.files)) ≡ moves_of (map lent_pair l.files)
