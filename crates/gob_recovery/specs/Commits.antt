-- What a commit needs, and what its maps settle to.
use Rattle.std.specs.Prelude.{◌≡◌, ℕ, false, List, [], ◌∷◌, ◌++◌, codes, Contains}
use Rattle.std.specs.declared.option.Option.TheVariants.{Some}
use Rattle.gob_bytes.specs.Paths.{begins_with, staging}
use Rattle.gob_device.specs.Disk.{Files, clean, after_remove}
use Rattle.gob_recovery.specs.Sequence.{CommitStep, move}
use Rattle.gob_recovery.specs.Settle.{do_steps, without_staging}

-- names below a folder alone may differ
abbrev pub OnlyBelow : List ℕ → Files → Files → Type 0
OnlyBelow folder m n = (name : List ℕ) → begins_with folder name ≡ false → n name ≡ m name

-- a sequence that isn't open yet
abbrev pub staged_sequence : List ℕ → List ℕ
staged_sequence job = staging job ++ codes "seq"

-- what is to be moved is there, and no crash takes of it
abbrev pub AreClean : List CommitStep → Files → Type 0
AreClean steps m = (source target : List ℕ) → Contains steps (move source target) → (bytes : List ℕ)
    × (m source ≡ Some (clean bytes))

-- what a map settles to before a commit's steps, and after them
abbrev pub two_settled : List ℕ → List CommitStep → Files → List Files
two_settled job steps m = without_staging job m ∷ without_staging job (do_steps steps m) ∷ []

-- the steps are done, and what else is staged is as before
abbrev pub part_done : List ℕ → List CommitStep → Files → Files
part_done job steps m = after_remove (staged_sequence job) (do_steps steps m)
