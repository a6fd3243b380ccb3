-- The laws of staged files: what is below an attempt's folder is the attempt's alone.
use Rattle.std.specs.Prelude.{◌≡◌, ◌≢◌, ℕ, ◌^◌, ◌<◌, true, false, List, []}
use Rattle.gob_bytes.specs.Paths.{attempt_folder, begins_with, staging}
use Rattle.gob_bytes.specs.Tables.{Table}
use Rattle.gob_device.specs.Disk.{Files}
use Rattle.gob_recovery.specs.Commits.{OnlyBelow}
use Rattle.gob_stage.specs.Attempt.{AttemptValue, AreThere, HoldsStaged, HoldsClean, new_attempt}

-- a map in which the attempt's folder is as before
abbrev pub SameBelow : List ℕ → Files → Files → Type 0
SameBelow folder m n = (name : List ℕ) → begins_with folder name ≡ true → n name ≡ m name

-- an attempt that has begun nothing holds nothing, whatever the map
abbrev pub NewHoldsNothing : Type 0
NewHoldsNothing = (job : List ℕ) (unit attempt : ℕ) (m : Files) → HoldsStaged (new_attempt job unit attempt) [] m

-- what an attempt holds is there, and a map that differs elsewhere alone holds it too
pub record StaysHeld (a : AttemptValue) (contents : Table (List ℕ)) (m n : Files) : Type 0 where
  pub there : HoldsStaged a contents m → AreThere a m
  pub held : SameBelow a.folder m n → HoldsStaged a contents m → HoldsStaged a contents n
  pub clean : SameBelow a.folder m n → HoldsClean a contents m → HoldsClean a contents n

abbrev pub HeldByItsFolder : Type 0
HeldByItsFolder = (a : AttemptValue) (contents : Table (List ℕ)) (m n : Files) → StaysHeld a contents m n

-- the folders of two attempts of a job have no name in common
pub record Apart (first second : List ℕ) : Type 0 where
  pub names : (name : List ℕ) → begins_with first name ≡ true → begins_with second name ≡ false
  pub maps : (m n : Files) → OnlyBelow first m n → SameBelow second m n

-- two attempts at a unit, or at two units, are apart
abbrev pub AttemptsAreApart : Type 0
AttemptsAreApart = (job : List ℕ) (unit attempt other again : ℕ)
    → unit < 2 ^ 32 → attempt < 2 ^ 32 → other < 2 ^ 32 → again < 2 ^ 32 → (unit ≡ other → attempt ≢ again)
    → Apart (attempt_folder job unit attempt) (attempt_folder job other again)

-- an attempt's folder is in the job's folder of staged files
abbrev pub AttemptsAreStaged : Type 0
AttemptsAreStaged = (job : List ℕ) (unit attempt : ℕ) (name : List ℕ)
    → begins_with (attempt_folder job unit attempt) name ≡ true → begins_with (staging job) name ≡ true
