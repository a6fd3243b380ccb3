-- The laws of settling.
use Rattle.std.specs.Prelude.{◌≡◌, ◌⊎◌, ℕ, true, false, List, take}
use Rattle.std.specs.declared.option.Option.TheVariants.{None, Some}
use Rattle.std.specs.List.{list_all}
use Rattle.gob_bytes.specs.Paths.{begins_with, staging, sequence_name}
use Rattle.gob_device.specs.Disk.{Files, File, clean, put}
use Rattle.gob_recovery.specs.Sequence.{CommitStep, WellFormed, sequence_text}
use Rattle.gob_recovery.specs.Settle.{do_steps, can_do, without_staging, Open, after_finish, Settles, IsSettled}
use Rattle.gob_recovery.specs.Settle.{IsDamaged, SettlesAs}

-- different sequences have different texts
abbrev pub OneSpelling : Type 0
OneSpelling = (job : List ℕ) (s t : List CommitStep) → WellFormed job s → WellFormed job t
    → sequence_text s ≡ sequence_text t → s ≡ t

-- a map settles to one map
abbrev pub SettlesToOne : Type 0
SettlesToOne = (job : List ℕ) (m a b : Files) → Settles job m a → Settles job m b → a ≡ b

-- after any front of the steps settling is still defined, and gives the same
abbrev pub SettlingCanBeRepeated : Type 0
SettlingCanBeRepeated = (job : List ℕ) (m : Files) (steps : List CommitStep) (k : ℕ) → Open job m steps
    → list_all (can_do m) steps ≡ true
    → Settles job (do_steps (take k steps) m) (after_finish job steps m)

-- an open sequence, where there is one, can't be lost in part
abbrev pub NoTornSequence : List ℕ → Files → Type 0
NoTornSequence job m = (f : File) → m (sequence_name job) ≡ Some f → (bytes : List ℕ) × (f ≡ clean bytes)

-- each image of a map settles to an image of what the map settles to
abbrev pub ImagesSettleAlike : Type 0
ImagesSettleAlike = (job : List ℕ) (m settled : Files) → NoTornSequence job m → Settles job m settled
    → SettlesAs job settled m

-- what a map settles to is settled
abbrev pub SettlesToSettled : Type 0
SettlesToSettled = (job : List ℕ) (m settled : Files) → Settles job m settled → IsSettled job settled

-- a settled map settles to itself, and so, in each image, does whatever differs from it in staged files alone
abbrev pub StagingIsFree : Type 0
StagingIsFree = (job : List ℕ) (settled m : Files) → IsSettled job settled
    → ((name : List ℕ) → begins_with (staging job) name ≡ false → m name ≡ settled name)
    → Settles job m settled × SettlesAs job settled m

-- a damaged map has one name to blame, and doesn't settle
pub record OneDamage (job : List ℕ) (m : Files) (name : List ℕ) : Type 0 where
  pub unsettled : (settled : Files) → Settles job m settled → ⊥
  pub blamed : (other : List ℕ) → IsDamaged job m other → other ≡ name

abbrev pub DamageIsOne : Type 0
DamageIsOne = (job : List ℕ) (m : Files) (name : List ℕ) → IsDamaged job m name → OneDamage job m name

-- every map settles, or is damaged
abbrev pub SettlesOrIsDamaged : Type 0
SettlesOrIsDamaged = (job : List ℕ) (m : Files) → ((settled : Files) × Settles job m settled)
    ⊎ ((name : List ℕ) × IsDamaged job m name)

-- once a sequence is open, the map settles as if its steps had been done
abbrev pub OpenedSettles : Type 0
OpenedSettles = (job : List ℕ) (steps : List CommitStep) (m : Files) → WellFormed job steps
    → m (sequence_name job) ≡ None
    → list_all (can_do m) steps ≡ true
    → Settles job (put m (sequence_name job) (Some (clean (sequence_text steps))))
    (without_staging job (do_steps steps m))

-- on the way each name has the file that it had, or the one that it will have
abbrev pub StepsChangeOnce : Type 0
StepsChangeOnce = (job : List ℕ) (steps : List CommitStep) (m : Files) (k : ℕ) (name : List ℕ) → WellFormed job steps
    → (do_steps (take k steps) m name ≡ m name) ⊎ (do_steps (take k steps) m name ≡ do_steps steps m name)
