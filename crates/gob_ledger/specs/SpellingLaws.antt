-- Laws of spelling: what is written reads back, and a map keeps one thing or has one name to blame.
use Rattle.std.specs.Prelude.{◌≡◌, ◌≢◌, ◌⊎◌, ◌↔◌, ℕ, true, List, length}
use Rattle.std.specs.declared.option.Option.{Option}
use Rattle.std.specs.declared.option.Option.TheVariants.{None, Some}
use Rattle.std.specs.List.{Contains}
use Rattle.std.specs.Option.{option_map}
use Rattle.gob_bytes.specs.Paths.{delta_folder, keeps_state}
use Rattle.gob_device.specs.Disk.{Files, contents_at, IsListing}
use Rattle.gob_ledger.specs.State.{State}
use Rattle.gob_ledger.specs.Spelling.{Version, version_1, version_2, Proper, ReadsAs, state_spelling}
use Rattle.gob_ledger.specs.Delta.{StateFollows, ReadsAsChange, Kept, KeepsAs, StateDamaged, Change, change_of}
use Rattle.gob_ledger.specs.Delta.{changes_in, version_in, kept_next, last_run, state_of}

-- a proper state has one text in the second version, and one in the first where it has one pipeline
pub record SpelledOnce (s : State) : Type 0 where
  pub second : (bytes : List ℕ) → ReadsAs version_2 bytes s ↔ (bytes ≡ state_spelling version_2 s)
  pub first : (bytes : List ℕ) → ReadsAs version_1 bytes s
      ↔ ((length s.pipelines ≡ 1) × (bytes ≡ state_spelling version_1 s))

abbrev pub WrittenReadsBack : Type 0
WrittenReadsBack = (s : State) → Proper s → SpelledOnce s

-- in each version a text is a state's, or no state's
abbrev pub TextIsReadOrNot : Type 0
TextIsReadOrNot =
    (v : Version) (bytes : List ℕ) → ((s : State) × ReadsAs v bytes s) ⊎ ((s : State) → ReadsAs v bytes s → ⊥)

-- behind a state a text is the change to a state, or to none
abbrev pub ChangeIsReadOrNot : Type 0
ChangeIsReadOrNot = (v : Version) (s : State) (bytes : List ℕ) → Proper s
    → ((t : State) × ReadsAsChange v s bytes t) ⊎ ((t : State) → ReadsAsChange v s bytes t → ⊥)

-- a map whose changes are listed keeps one thing, or has a name to blame
abbrev pub KeptOrDamaged : Type 0
KeptOrDamaged = (job : List ℕ) (m : Files) (names : List (List ℕ)) → IsListing (delta_folder job) m names
    → ((k : Option Kept) × KeepsAs job m k) ⊎ ((name : List ℕ) × StateDamaged job m name)

-- the second map after this change: its file has its text, what it takes away is gone, and of the files that tell the
-- state no other differs
pub record HasChanged (job : List ℕ) (c : Change) (m n : Files) : Type 0 where
  pub target : contents_at n c.target ≡ Some c.text
  pub removed : (name : List ℕ) → Contains c.removes name → contents_at n name ≡ None
  pub others : (name : List ℕ) → keeps_state job name ≡ true → name ≢ c.target → (Contains c.removes name → ⊥)
      → contents_at n name ≡ contents_at m name

-- where one thing was kept, a map after the change to the next state keeps that state behind it
abbrev pub ChangeKeepsNext : Type 0
ChangeKeepsNext = (job : List ℕ) (m n : Files) (k : Option Kept) (t : State) → KeepsAs job m k → Proper t
    → ((s : State) → option_map state_of k ≡ Some s → t.run ≢ last_run → StateFollows s t)
    → HasChanged job (change_of job (option_map state_of k) (changes_in k) (version_in k) t) m n
    → KeepsAs job n (Some (kept_next k t))
