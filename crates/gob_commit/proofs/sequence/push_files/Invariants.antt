use Rattle.std.proofs.Common.{◌≡◌, ◌++◌, map, drop}
use Rattle.gob_commit.specs.Staged.{lent_pair, pair_of}
use Rattle.gob_commit.proofs.sequence.push_files.Given as goal

abbrev pub invariant-loop-file : goal.invariant-loop-file
invariant-loop-file l =
    map lent_pair l.files.items ++ map pair_of (drop l.file-index l.file-items)
    ≡ map lent_pair l.initial.files.items ++ map pair_of l.file-items
