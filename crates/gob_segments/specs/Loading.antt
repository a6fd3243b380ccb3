-- What loading answers.
use Rattle.std.specs.Prelude.{◌≡◌, ◌⊎◌, ℕ, ◌+◌, Bool, true, false, List, ◌∷◌, ◌++◌, IfSome}
use Rattle.std.specs.declared.option.Option.{Option}
use Rattle.std.specs.declared.option.Option.TheVariants.{Some}
use Rattle.std.specs.declared.result.Result.{Result}
use Rattle.std.specs.declared.result.Result.TheVariants.{Err}
use Rattle.std.specs.Option.{option_map}
use Rattle.gob_bytes.specs.Paths.{delta_name, state_name}
use Rattle.gob_device.specs.Causes.{Rose}
use Rattle.gob_device.specs.Disk.{Disk, Files, contents_at}
use Rattle.gob_ledger.specs.State.{State}
use Rattle.gob_ledger.specs.Spelling.{Proper, ReadsAs, Small, Version}
use Rattle.gob_ledger.specs.Delta.{Kept, KeepsAs, LeadOn, NoChange, ReadsAsChange, StateDamaged}
use Rattle.gob_ledger.specs.Delta.{changes_in, state_of, version_in}
use Rattle.gob_volume.specs.declared.volume.ReadFault.{ReadFault}
use Rattle.gob_volume.specs.declared.volume.ReadFault.TheVariants as read_fault
use Rattle.gob_segments.specs.Changes.{CountsChanges}
use Rattle.gob_segments.specs.declared.change.Loaded.{Loaded}
use Rattle.gob_segments.specs.declared.faults.LoadFault.{LoadFault}
use Rattle.gob_segments.specs.declared.faults.LoadFault.TheVariants as load_fault

-- what was loaded is this
pub record IsLoaded (k : Option Kept) (l : Loaded) : Type 0 where
  pub state : l.state ≡ option_map state_of k
  pub deltas : l.deltas ≡ changes_in k
  pub version : l.version ≡ version_in k

-- what was loaded is what the map keeps
abbrev pub IsKept : List ℕ → Files → Loaded → Type 0
IsKept job m l = (k : Option Kept) × KeepsAs job m k × IsLoaded k l

-- told or not: the state can be kept, and no more changes are counted than there were commits
pub record LoadedFits (l : Loaded) : Type 0 where
  pub proper : IfSome l.state Proper
  pub counted : CountsChanges l.state l.deltas

-- ---- changes, name by name

-- this state is kept whole, in this version
abbrev pub IsBase : List ℕ → Files → Version → State → Type 0
IsBase job m v s = (bytes : List ℕ) × (contents_at m (state_name job) ≡ Some bytes) × ReadsAs v bytes s

-- the change of this name is the next one behind the state, and leads to that one
abbrev pub IsNext : List ℕ → Files → Version → State → List ℕ → State → Type 0
IsNext job m v s name t =
    (bytes : List ℕ) × (name ≡ delta_name job t.run) × (contents_at m name ≡ Some bytes) × ReadsAsChange v s bytes t

-- told or not: a state that can be kept, so many commits later
pub record LedTo (s : State) (commits : ℕ) (t : State) : Type 0 where
  pub proper : Proper t
  pub run : t.run ≡ s.run + commits

-- the name is that of the next run's change, or of no change that a state behind this run has
abbrev pub TellsNext : List ℕ → ℕ → List ℕ → Bool → Type 0
TellsNext job run name true = name ≡ delta_name job (run + 1)
TellsNext job run name false = Small (run + 1) → name ≡ delta_name job (run + 1) → ⊥

-- of these names, this is the first that isn't the next change
pub record StopsAt (job : List ℕ) (m : Files) (v : Version) (s : State) (names : List (List ℕ))
    (name : List ℕ) : Type 0 where
  pub before : List (List ℕ)
  pub after : List (List ℕ)
  pub whole : names ≡ before ++ name ∷ after
  pub last : State
  pub leads : LeadOn job m v s before last
  pub stops : NoChange job m v last name

-- ---- faults

abbrev pub load_of_read : ReadFault → LoadFault
load_of_read read_fault.Failed = load_fault.Failed
load_of_read read_fault.Memory = load_fault.Memory

-- the count rose, where the volume failed
abbrev pub RoseIfLoadFailed : ℕ → ℕ → LoadFault → Type 0
RoseIfLoadFailed before now load_fault.Failed = Rose before now
RoseIfLoadFailed before now load_fault.Memory = Unit {0}
RoseIfLoadFailed before now (load_fault.Damaged name) = Unit {0}

-- where damage is told, this name is the one to blame
abbrev pub BlamesDamage : List ℕ → Option Disk → LoadFault → Type 0
BlamesDamage job disk load_fault.Failed = Unit {0}
BlamesDamage job disk load_fault.Memory = Unit {0}
BlamesDamage job disk (load_fault.Damaged name) = IfSome disk (λ d. StateDamaged job d.files name)

-- where damage is told, it is of this name, which isn't the next change
abbrev pub BlamesNext : List ℕ → Version → State → List ℕ → Option Disk → LoadFault → Type 0
BlamesNext job v s name disk load_fault.Failed = Unit {0}
BlamesNext job v s name disk load_fault.Memory = Unit {0}
BlamesNext job v s name disk (load_fault.Damaged blamed) =
    (blamed ≡ name) × IfSome disk (λ d. NoChange job d.files v s name)

-- where damage is told, it is of the first of these names that isn't the next change
abbrev pub BlamesSome : List ℕ → Version → State → List (List ℕ) → Option Disk → LoadFault → Type 0
BlamesSome job v s names disk load_fault.Failed = Unit {0}
BlamesSome job v s names disk load_fault.Memory = Unit {0}
BlamesSome job v s names disk (load_fault.Damaged name) = IfSome disk (λ d. StopsAt job d.files v s names name)

-- this damage is told, unless the volume failed or no memory was left
abbrev pub LoadDamageDue : {T : Type 0} → List ℕ → Result T LoadFault → Type 0
LoadDamageDue name result =
    (result ≡ Err (load_fault.Damaged name)) ⊎ (result ≡ Err load_fault.Failed) ⊎ (result ≡ Err load_fault.Memory)
