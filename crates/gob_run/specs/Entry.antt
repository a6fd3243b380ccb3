-- What a run finds, and why it is refused.
use Rattle.std.specs.Prelude.{◌≡◌, ℕ, ◌+◌, ◌<◌, List, ◌++◌, length, option_map}
use Rattle.std.specs.declared.option.Option.{Option}
use Rattle.std.specs.declared.option.Option.TheVariants.{None, Some}
use Rattle.gob_device.specs.Disk.{Disk, Files, EachOf, last_map}
use Rattle.gob_device.specs.Supply.{Supply, listing_of}
use Rattle.gob_meaning.specs.Job.{Job}
use Rattle.gob_ledger.specs.Delta.{Kept, KeepsAs, StateDamaged, state_of}
use Rattle.gob_ledger.specs.State.{State}
use Rattle.gob_ledger.specs.Units.{first_shrunk, new_units, next_of, range_count}
use Rattle.gob_recovery.specs.Laws.{NoTornSequence}
use Rattle.gob_recovery.specs.Settle.{IsDamaged, Settles, SettlesAs}
use Rattle.gob_history.specs.Runs.{state_or_empty}
use Rattle.gob_seq.specs.Maps.{OnlyUnstages, SettlesByName}
use Rattle.gob_run.specs.declared.fault.RunFault.{RunFault}
use Rattle.gob_run.specs.declared.fault.RunFault.TheVariants.{Damaged, Shrunk, Full}

-- what the files settle to, and what is kept there
pub record SettledEntry (job : List ℕ) (m : Files) (o : Option State) : Type 0 where
  pub settled : Files
  pub settles : Settles job m settled
  pub kept : Option Kept
  pub keeps : KeepsAs job settled kept
  pub state : option_map state_of kept ≡ o

-- ---- what settling leaves

-- each of these maps settles as the first one does, where that can be settled
abbrev pub SettleAlike : List ℕ → Files → List Files → Type 0
SettleAlike job m added = (settled : Files) → NoTornSequence job m → Settles job m settled
    → EachOf (SettlesAs job settled) added

-- where the open sequence is damaged nothing was changed
abbrev pub StaysDamaged : List ℕ → Disk → Disk → Type 0
StaysDamaged job d e = (name : List ℕ) → IsDamaged job d.files name → e ≡ d

-- nothing was changed but what settling changes: outside the staging each name but the open sequence's holds what it
-- held, or what settling leaves there, and a staged one what it held, or nothing; where settling was stopped the files
-- may not be settled yet, and where it isn't defined nothing was changed at all
pub record OnlySettled (job : List ℕ) (d e : Disk) : Type 0 where
  pub added : List Files
  pub trail : e.trail ≡ d.trail ++ added
  pub stands : e.files ≡ last_map d.files added
  pub alike : SettleAlike job d.files added
  pub names : EachOf (SettlesByName job d.files) added
  pub staged : EachOf (OnlyUnstages job d.files) added
  pub damaged : StaysDamaged job d e

-- the files are settled, and nothing else was changed
pub record SettledTo (job : List ℕ) (d e : Disk) : Type 0 where
  pub only : OnlySettled job d e
  pub settles : Settles job d.files e.files

-- a file of the job can't be read: the open sequence, and then nothing was changed, or, once that is done, the state
pub data LeftBroken (job name : List ℕ) (d e : Disk) : Type 0 where
  sequence : IsDamaged job d.files name → e ≡ d → LeftBroken job name d e
  state : SettledTo job d e → StateDamaged job e.files name → LeftBroken job name d e

-- ---- the refusals of a run, in their order: each comes only where those before it don't

-- a file of the job is to blame: the open sequence, or, once that is done, a file that tells the state
pub data IsBroken (job : List ℕ) (m : Files) : List ℕ → Type 0 where
  sequence : (name : List ℕ) → IsDamaged job m name → IsBroken job m name
  state : (settled : Files) (name : List ℕ) → Settles job m settled → StateDamaged job settled name
      → IsBroken job m name

-- the first partition of the listing that is shorter than what was taken of it
pub record IsFirstShrunk (job : Job) (s : Supply) (o : Option State) (part : List ℕ) (next size : ℕ) : Type 0 where
  pub first : first_shrunk (state_or_empty job o).parts (listing_of s.held) ≡ Some (part, size)
  pub taken : next ≡ next_of (state_or_empty job o).parts part

-- the most ranges that a state may have, with a run's new units
abbrev pub most_ranges : ℕ
most_ranges = 200000

-- there is no room for so many new units beside the state's ranges
pub record TooMany (job : Job) (o : Option State) (ranges units : ℕ) : Type 0 where
  pub stored : ranges ≡ range_count (state_or_empty job o).parts
  pub many : most_ranges < ranges + units

-- the state's ranges and the run's new units are too many together, and no partition is too short
pub record IsFull (job : Job) (s : Supply) (o : Option State) (ranges units : ℕ) : Type 0 where
  pub unshrunk : first_shrunk (state_or_empty job o).parts (listing_of s.held) ≡ None
  pub fresh : units ≡ length (new_units (state_or_empty job o).parts s.held job.limits)
  pub many : TooMany job o ranges units

-- what is to be refused, over devices that tell
pub data Refused (job : Job) (d : Disk) (s : Supply) : RunFault → Type 0 where
  broken : (name : List ℕ) → IsBroken job.name d.files name → Refused job d s (Damaged name)
  shrunk : (o : Option State) (part : List ℕ) (next size : ℕ) → SettledEntry job.name d.files o
      → IsFirstShrunk job s o part next size → Refused job d s (Shrunk part next size)
  full : (o : Option State) (ranges units : ℕ) → SettledEntry job.name d.files o → IsFull job s o ranges units
      → Refused job d s (Full ranges units)
