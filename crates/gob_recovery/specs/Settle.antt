-- What settling makes of a map: an open sequence is done to its end, and what was staged is taken away.
use Rattle.std.specs.Prelude.{◌≡◌, ◌⊎◌, ℕ, Bool, true, false, cond, ◌||◌, List, [], ◌∷◌, ◌++◌}
use Rattle.std.specs.Option.{is_some}
use Rattle.std.specs.declared.option.Option.TheVariants.{None, Some}
use Rattle.std.specs.List.{list_all}
use Rattle.gob_bytes.specs.Paths.{begins_with, staging, sequence_name}
use Rattle.gob_device.specs.Disk.{Files, File, contents_of, after_rename, after_remove, Image, EveryImage}
use Rattle.gob_recovery.specs.Sequence.{CommitStep, move, remove, Reads}

abbrev pub moved_where : List ℕ → List ℕ → Bool → Files → Files
moved_where source target true m = after_rename source target m
moved_where source target false m = m

-- a move whose source is gone was done already
abbrev pub do_step : CommitStep → Files → Files
do_step (move source target) m = moved_where source target (is_some (m source)) m
do_step (remove name) m = after_remove name m

unfoldable pub do_steps : List CommitStep → Files → Files
do_steps [] m = m
do_steps (s ∷ ss) m = do_steps ss (do_step s m)

-- nothing that was staged is left
unfoldable pub without_staging : List ℕ → Files → Files
without_staging job m = λ name. cond (begins_with (staging job) name) None (m name)

-- a move needs its source, or else that it was done already
abbrev pub can_do : Files → CommitStep → Bool
can_do m (move source target) = is_some (m source) || is_some (m target)
can_do m (remove name) = true

-- an open sequence in the map
pub record Open (job : List ℕ) (m : Files) (steps : List CommitStep) : Type 0 where
  pub file : File
  pub here : m (sequence_name job) ≡ Some file
  pub reads : Reads job (contents_of file) steps

-- what the steps leave
abbrev pub after_finish : List ℕ → List CommitStep → Files → Files
after_finish job steps m = without_staging job (after_remove (sequence_name job) (do_steps steps m))

-- settling the map is defined, and gives this one
abbrev pub Settles : List ℕ → Files → Files → Type 0
Settles job m settled = ((m (sequence_name job) ≡ None) × (settled ≡ without_staging job m))
    ⊎ ((steps : List CommitStep) × Open job m steps × (list_all (can_do m) steps ≡ true)
    × (settled ≡ after_finish job steps m))

-- there is no open sequence, and nothing is staged
pub record IsSettled (job : List ℕ) (m : Files) : Type 0 where
  pub closed : m (sequence_name job) ≡ None
  pub unstaged : (name : List ℕ) → begins_with (staging job) name ≡ true → m name ≡ None

-- settling the map isn't defined, and this name is the one to blame: the sequence, or the first source that is lost
pub data IsDamaged (job : List ℕ) (m : Files) : List ℕ → Type 0 where
  sequence : (file : File) → m (sequence_name job) ≡ Some file
      → ((steps : List CommitStep) → Reads job (contents_of file) steps → ⊥) → IsDamaged job m (sequence_name job)
  lost : (before : List CommitStep) (source target : List ℕ) (after : List CommitStep)
      → Open job m (before ++ move source target ∷ after) → list_all (can_do m) before ≡ true
      → can_do m (move source target) ≡ false → IsDamaged job m source

-- each image of the map settles to an image of this one
unfoldable pub SettlesAs : List ℕ → Files → Files → Type 0
SettlesAs job settled m = EveryImage (λ image. (n : Files) × Settles job image n × Image settled n) m
