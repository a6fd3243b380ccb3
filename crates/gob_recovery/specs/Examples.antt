-- Worked examples: a sequence's text, damage, and a commit that is stopped after any of its calls.
use Rattle.std.specs.Prelude.{◌≡◌, ℕ, ◌≤◌, false, List, [], ◌∷◌, ◌++◌, take, codes}
use Rattle.std.specs.declared.option.Option.TheVariants.{None, Some}
use Rattle.std.specs.List.{list_any}
use Rattle.std.specs.Str.{bytes_eq}
use Rattle.gob_bytes.specs.Paths.{begins_with, staging}
use Rattle.gob_device.specs.Disk.{Files, clean, no_files, put, after_create, after_append, after_sync, after_rename}
use Rattle.gob_device.specs.Disk.{after_remove, Torn}
use Rattle.gob_recovery.specs.Sequence.{CommitStep, move, remove, WellFormed, sequence_text}
use Rattle.gob_recovery.specs.Settle.{do_steps, without_staging, Settles, IsDamaged, SettlesAs}
use Rattle.gob_recovery.specs.Commits.{part_done}

-- one published file, the state, and a file that goes
abbrev pub steps : List CommitStep
steps = move (codes "j1/stage/0-0/out/a.txt") (codes "j1/out/a.txt") ∷ move (codes "j1/stage/state") (codes "j1/state")
    ∷ remove (codes "j1/delta/1") ∷ []

abbrev pub one_move_text : List ℕ
one_move_text = codes "gobblin-sequence 1\nmove j1/stage/0-0/out/a.txt j1/out/a.txt\nmove j1/stage/state j1/state\n"
    ++ codes "remove j1/delta/1\nend 3\n"

-- what stood before the commit
abbrev pub entry : Files
entry = put no_files (codes "j1/delta/1") (Some (clean (codes "old\n")))

-- the calls of a commit with its staging
abbrev pub calls : List (Files → Files)
calls = after_create (codes "j1/stage/0-0/out/a.txt") ∷ after_append (codes "j1/stage/0-0/out/a.txt") (codes "x\n") ∷
    after_sync (codes "j1/stage/0-0/out/a.txt")
    ∷ after_create (codes "j1/stage/state") ∷ after_append (codes "j1/stage/state") (codes "new\n") ∷ after_sync
    (codes "j1/stage/state")
    ∷ after_create (codes "j1/stage/seq") ∷ after_append (codes "j1/stage/seq") one_move_text ∷ after_sync
    (codes "j1/stage/seq")
    ∷ after_rename (codes "j1/stage/seq") (codes "j1/seq")
    ∷ after_rename (codes "j1/stage/0-0/out/a.txt") (codes "j1/out/a.txt") ∷ after_rename (codes "j1/stage/state")
    (codes "j1/state")
    ∷ after_remove (codes "j1/delta/1") ∷ after_remove (codes "j1/seq") ∷ []

-- the map after these calls
unfoldable pub after_calls : List (Files → Files) → Files → Files
after_calls [] m = m
after_calls (call ∷ calls) m = after_calls calls (call m)

-- the map where the commit was stopped after so many calls
unfoldable pub stopped_files : ℕ → Files
stopped_files k = after_calls (take k calls) entry

-- what stands after the commit
unfoldable pub committed_files : Files
committed_files = without_staging (codes "j1") (do_steps steps (stopped_files 6))

-- what is published then, and that nothing else but the three names and what is staged has changed
pub record IsCommitted (m : Files) : Type 0 where
  pub published : m (codes "j1/out/a.txt") ≡ Some (clean (codes "x\n"))
  pub state : m (codes "j1/state") ≡ Some (clean (codes "new\n"))
  pub gone : m (codes "j1/delta/1") ≡ None
  pub others : (name : List ℕ) → list_any (bytes_eq name) (codes "j1/out/a.txt" ∷ codes "j1/state" ∷ codes "j1/delta/1"
      ∷ []) ≡ false
      → begins_with (staging (codes "j1")) name ≡ false → m name ≡ entry name

-- a stop before the sequence is open settles to what stood, and one from there on to what the steps leave
pub record WorkedCommit : Type 0 where
  pub spelled : sequence_text steps ≡ one_move_text
  pub fits : WellFormed (codes "j1") steps
  pub is : IsCommitted committed_files
  pub before : (k : ℕ) → k ≤ 9 → SettlesAs (codes "j1") entry (stopped_files k)
  pub torn : (n : Files) → Torn (codes "j1/stage/seq") (after_append (codes "j1/stage/seq") one_move_text)
      (stopped_files 7) n
      → SettlesAs (codes "j1") entry n
  pub after : (k : ℕ) → 10 ≤ k → SettlesAs (codes "j1") committed_files (stopped_files k)
  pub whole : stopped_files 14 ≡ part_done (codes "j1") steps (stopped_files 6)

-- between its two moves the sequence is open: one of its sources is gone, and the other is there
pub record BetweenMoves : Type 0 where
  pub gone : stopped_files 11 (codes "j1/stage/0-0/out/a.txt") ≡ None
  pub there : stopped_files 11 (codes "j1/out/a.txt") ≡ Some (clean (codes "x\n"))
  pub waiting : stopped_files 11 (codes "j1/stage/state") ≡ Some (clean (codes "new\n"))
  pub old : stopped_files 11 (codes "j1/state") ≡ None
  pub settles : Settles (codes "j1") (stopped_files 11) committed_files

-- a sequence without its last byte, and one whose first source that is lost is the second one
pub record WorkedDamage : Type 0 where
  pub cut : IsDamaged (codes "j1") (put no_files (codes "j1/seq") (Some (clean (codes "gobblin-sequence 1\nend 0"))))
      (codes "j1/seq")
  pub lost : IsDamaged (codes "j1") (put (put no_files (codes "j1/seq") (Some (clean one_move_text)))
      (codes "j1/out/a.txt")
      (Some (clean []))) (codes "j1/stage/state")
