-- Runs one after the other, each of which may be stopped.
use Rattle.std.specs.Prelude.{◌≡◌, ◌⊎◌, ℕ, true, List, [], ◌∷◌}
use Rattle.std.specs.declared.option.Option.TheVariants.{None}
use Rattle.std.specs.List.{Any}
use Rattle.gob_bytes.specs.Paths.{begins_with, under}
use Rattle.gob_device.specs.Disk.{Files, Image}
use Rattle.gob_device.specs.Supply.{Held}
use Rattle.gob_meaning.specs.Job.{Job}
use Rattle.gob_ledger.specs.Archive.{Agrees, Grows}
use Rattle.gob_history.specs.Runs.{TrailOfRun, TrailOfSettling}
use Rattle.gob_jobs.specs.Plans.{TellsPlan}

-- the maps of one run, or of a call that only settles
pub data Round (job : List ℕ) (archive : Held) (m : Files) (added : List Files) : Type 0 where
  settling : TrailOfSettling job m added → Round job archive m added
  running : (j : Job) → j.name ≡ job → TellsPlan j → (held : Held) → Agrees archive held → (failing : List ℕ)
      → TrailOfRun j held failing m added → Round job archive m added

abbrev pub IsOfJob : List ℕ → List ℕ → Type 0
IsOfJob job name = begins_with (under job []) name ≡ true

-- the job's names stand for the same files; names of others may change at will
abbrev pub SameOfJob : List ℕ → Files → Files → Type 0
SameOfJob job m n = (name : List ℕ) → IsOfJob job name → n name ≡ m name

abbrev pub last_of : Files → List Files → Files
last_of m [] = m
last_of m (n ∷ ns) = last_of n ns

-- after a round, of which R says what maps it may add: what a crash leaves of some map of it, or its last map
pub record ComesAfter (R : Held → Files → List Files → Type 0) (job : List ℕ) (archive : Held) (m n : Files) : Type 0
  where
    pub added : List Files
    pub round : R archive m added
    pub left : Files
    pub how : Any (λ k. Image k left) (m ∷ added) ⊎ (left ≡ last_of m added)
    pub same : SameOfJob job left n

-- rounds over partitions that grow, latest first, from a volume that has nothing of the job
pub data History (R : Held → Files → List Files → Type 0) (job : List ℕ) : List (Held × Files) → Type 0 where
  begins : (archive : Held) (m : Files) → ((name : List ℕ) → IsOfJob job name → m name ≡ None)
      → History R job ((archive, m) ∷ [])
  goes_on : (archive later : Held) (m n : Files) (before : List (Held × Files)) → History R job ((archive, m) ∷ before)
      → Grows archive later → ComesAfter R job later m n → History R job ((later, n) ∷ (archive, m) ∷ before)
