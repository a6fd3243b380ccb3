use Rattle.std.proofs.Common.{◌≡◌, ◌++◌, map, drop}
use Rattle.gob_commit.specs.Staged.{all_pairs, lent_pair}
use Rattle.gob_commit.proofs.sequence.staged_files.Given as goal

abbrev pub invariant-loop-made : goal.invariant-loop-made
invariant-loop-made l =
    map lent_pair l.files.items ++ all_pairs (drop l.made-index l.results) ≡ all_pairs l.results
