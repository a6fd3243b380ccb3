-- What a map of files stands for: a state over an archive.
use Rattle.std.specs.Prelude.{◌≡◌, ◌≢◌, ◌↔◌, ℕ, true, List}
use Rattle.std.specs.declared.option.Option.{Option}
use Rattle.std.specs.Option.{option_map}
use Rattle.std.specs.declared.option.Option.TheVariants.{None, Some}
use Rattle.std.specs.List.{AllByRecursion}
use Rattle.gob_bytes.specs.Paths.{is_published, keeps_state}
use Rattle.gob_device.specs.Disk.{Files, File, clean, contents_at, EveryImage}
use Rattle.gob_device.specs.Supply.{Held}
use Rattle.gob_ledger.specs.State.{State, TiledState}
use Rattle.gob_ledger.specs.Archive.{IsWithin}
use Rattle.gob_ledger.specs.Totals.{SameCounts, counted_in}
use Rattle.gob_ledger.specs.Expected.{IsExpected}
use Rattle.gob_ledger.specs.Delta.{Kept, KeepsAs, state_of}
use Rattle.gob_recovery.specs.Settle.{Settles, SettlesAs}
use Rattle.gob_jobs.specs.Plans.{plan_of}

-- the state that a map stores: none, or one that its state file and the changes behind it lead to
abbrev pub Stores : List ℕ → Files → Option State → Type 0
Stores job m o = (k : Option Kept) × KeepsAs job m k × (option_map state_of k ≡ o)

-- the published files of a map are exactly those that the state expects
abbrev pub PublishesExactly : List ℕ → Held → State → Files → Type 0
PublishesExactly job archive s m = (name content : List ℕ) → is_published job name ≡ true
    → (contents_at m name ≡ Some content) ↔ IsExpected job s archive name content

-- a state that is true of the archive and of the published files
pub record Sound (job : List ℕ) (archive : Held) (s : State) (m : Files) : Type 0 where
  pub tiled : TiledState s
  pub plans : AllByRecursion (λ p. plan_of p ≢ None) s.pipelines
  pub within : IsWithin archive s
  pub totals : SameCounts s.totals (counted_in s archive)
  pub files : PublishesExactly job archive s m

-- the same where there may be no state: then nothing is published
abbrev pub SoundIn : List ℕ → Held → Option State → Files → Type 0
SoundIn job archive None m = (name : List ℕ) → is_published job name ≡ true → contents_at m name ≡ None
SoundIn job archive (Some s) m = Sound job archive s m

-- an image that settles to this state, or to none, and is sound then
abbrev pub RecoversTo : List ℕ → Held → Option State → Files → Type 0
RecoversTo job archive o image = (settled : Files) × Settles job image settled × Stores job settled o
    × SoundIn job archive o settled

-- so does every image of the map
unfoldable pub AllRecoverTo : List ℕ → Held → Option State → Files → Type 0
AllRecoverTo job archive o m = EveryImage (RecoversTo job archive o) m

-- the files of the state and the published ones of a map can't be lost in part
pub record CountsClean (job : List ℕ) (m : Files) : Type 0 where
  pub state : (name : List ℕ) (f : File) → keeps_state job name ≡ true → m name ≡ Some f → (bytes : List ℕ)
      × (f ≡ clean bytes)
  pub published : (name : List ℕ) (f : File) → is_published job name ≡ true → m name ≡ Some f → (bytes : List ℕ)
      × (f ≡ clean bytes)

-- a settled map that no crash changes where it counts: its state and its published files are clean and right
pub record IsDurable (job : List ℕ) (archive : Held) (o : Option State) (m : Files) : Type 0 where
  pub stores : Stores job m o
  pub sound : SoundIn job archive o m
  pub clean : CountsClean job m

-- what settles to a steady map stands for its state
abbrev pub DurableRecovers : Type 0
DurableRecovers = (job : List ℕ) (archive : Held) (o : Option State) (settled m : Files)
    → IsDurable job archive o settled → SettlesAs job settled m → AllRecoverTo job archive o m

-- what stands for a state settles to a steady map
abbrev pub RecoveringIsDurable : Type 0
RecoveringIsDurable = (job : List ℕ) (archive : Held) (o : Option State) (settled m : Files)
    → AllRecoverTo job archive o m → Settles job m settled → IsDurable job archive o settled × SettlesAs job settled m

-- a map recovers to one state, whatever archive is at hand
abbrev pub RecoversToOne : Type 0
RecoversToOne = (job : List ℕ) (a b : Held) (o p : Option State) (m : Files)
    → AllRecoverTo job a o m → AllRecoverTo job b p m → o ≡ p
