-- What the maps that a call adds are to the map that stood before it.
use Rattle.std.specs.Prelude.{◌≡◌, ◌≢◌, ◌⊎◌, ℕ, true, false, List, ◌∷◌, ◌++◌, take}
use Rattle.std.specs.declared.option.Option.TheVariants.{None}
use Rattle.std.specs.List.{list_all}
use Rattle.gob_bytes.specs.Paths.{begins_with, sequence_name, staging}
use Rattle.gob_device.specs.Disk.{Files, Rises, last_map, after_create, after_append, after_sync, after_remove}
use Rattle.gob_recovery.specs.Sequence.{CommitStep, move}
use Rattle.gob_recovery.specs.Settle.{do_steps, can_do, without_staging, Open, Settles, SettlesAs}
use Rattle.gob_recovery.specs.Commits.{two_settled}
use Rattle.gob_recovery.specs.Laws.{NoTornSequence}

-- the first map has R to the one that stands at last
abbrev pub EndsBy : (Files → Files → Type 0) → Files → List Files → Type 0
EndsBy R m added = R m (last_map m added)

-- the map that stands at last is this one
abbrev pub EndsAs : (Files → Files) → Files → List Files → Type 0
EndsAs step m added = last_map m added ≡ step m

-- ---- settling

-- settling gives what it gave
abbrev pub SettlesTheSame : List ℕ → Files → Files → Type 0
SettlesTheSame job m n = (settled : Files) → Settles job m settled → Settles job n settled

-- and in each image, where no torn sequence stands
abbrev pub ImagesSettleTheSame : List ℕ → Files → Files → Type 0
ImagesSettleTheSame job m n = (settled : Files) → NoTornSequence job m → Settles job m settled → SettlesAs job settled n

-- settling goes on as it began, and a sequence doesn't become torn
pub record SettlingGoesOn (job : List ℕ) (m n : Files) : Type 0 where
  pub same : SettlesTheSame job m n
  pub untorn : NoTornSequence job m → NoTornSequence job n

-- without what is staged this is what settling gives
abbrev pub SettlesUnstaged : List ℕ → Files → Files → Type 0
SettlesUnstaged job m n = Settles job m (without_staging job n)

-- an open sequence that can be done
pub record CanFinish (job : List ℕ) (m : Files) (steps : List CommitStep) : Type 0 where
  pub opened : Open job m steps
  pub can : list_all (can_do m) steps ≡ true

-- the first move that can't be done has this source
pub record FirstLost (m : Files) (steps : List CommitStep) (source : List ℕ) : Type 0 where
  pub before : List CommitStep
  pub target : List ℕ
  pub after : List CommitStep
  pub whole : steps ≡ before ++ move source target ∷ after
  pub can : list_all (can_do m) before ≡ true
  pub cannot : can_do m (move source target) ≡ false

-- ---- steps that are done

-- a front of the steps is done
abbrev pub FrontIsDone : List CommitStep → Files → Files → Type 0
FrontIsDone steps m n = (k : ℕ) × (n ≡ do_steps (take k steps) m)

-- the steps are done and the sequence is gone
abbrev pub finished_files : List ℕ → List CommitStep → Files → Files
finished_files name steps m = after_remove name (do_steps steps m)

-- a front of the steps is done, or all are and the sequence is gone
abbrev pub Finishes : List ℕ → List CommitStep → Files → Files → Type 0
Finishes name steps m n = FrontIsDone steps m n ⊎ (n ≡ finished_files name steps m)

-- ---- a commit

-- no sequence is open, and the steps can be done
pub record IsReady (job : List ℕ) (steps : List CommitStep) (m : Files) : Type 0 where
  pub closed : m (sequence_name job) ≡ None
  pub can : list_all (can_do m) steps ≡ true

-- the map settles to this one, and its images to images of it
pub record SettlesWell (job : List ℕ) (settled m : Files) : Type 0 where
  pub settles : Settles job m settled
  pub images : SettlesAs job settled m

-- the maps settle to what the first one did without the steps, and from some map on to what it does with them
abbrev pub GoesOver : List ℕ → List CommitStep → Files → List Files → Type 0
GoesOver job steps m added = Rises (SettlesWell job) (two_settled job steps m) added

-- ---- what a reader meets who doesn't wait for settling

-- outside the staging each name but the open sequence's has the file of the first map or of the settled one
abbrev pub HoldsOneOf : List ℕ → Files → Files → Files → Type 0
HoldsOneOf job m settled n = (name : List ℕ) → begins_with (staging job) name ≡ false → name ≢ sequence_name job
    → (n name ≡ m name) ⊎ (n name ≡ settled name)

-- the same of whatever the map settles to
abbrev pub SettlesByName : List ℕ → Files → Files → Type 0
SettlesByName job m n = (settled : Files) → Settles job m settled → HoldsOneOf job m settled n

-- the same of what a commit's steps leave
abbrev pub CommitsByName : List ℕ → List CommitStep → Files → Files → Type 0
CommitsByName job steps m n = HoldsOneOf job m (do_steps steps m) n

-- each staged name holds what it held, or nothing
abbrev pub OnlyUnstages : List ℕ → Files → Files → Type 0
OnlyUnstages job m n = (name : List ℕ) → begins_with (staging job) name ≡ true → (n name ≡ m name) ⊎ (n name ≡ None)

-- ---- a file that is written

-- a file that holds these bytes, all of them kept
abbrev pub after_write : List ℕ → List ℕ → Files → Files
after_write name bytes m = after_sync name (after_append name bytes (after_create name m))
