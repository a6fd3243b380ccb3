-- What `recover JOB` and `report JOB` tell, exactly where, and what they leave.
use Rattle.std.specs.Prelude.{◌≡◌, ◌⊎◌, ℕ, Bool, List, [], ◌++◌, IfSome}
use Rattle.std.specs.declared.option.Option.{Option}
use Rattle.std.specs.Option.{is_some}
use Rattle.gob_bytes.specs.Paths.{sequence_name, under}
use Rattle.gob_device.specs.Causes.{Rose}
use Rattle.gob_device.specs.Disk.{Along, Disk, Files, last_map}
use Rattle.gob_ledger.specs.State.{State}
use Rattle.gob_recovery.specs.Commits.{OnlyBelow}
use Rattle.gob_recovery.specs.Settle.{IsDamaged}
use Rattle.gob_history.specs.Runs.{TrailOfSettling}
use Rattle.gob_run.specs.Answers.{ReadersOfSettling}
use Rattle.gob_run.specs.Entry.{SettledEntry, IsBroken, LeftBroken, OnlySettled, SettledTo}
use Rattle.gob_run.specs.World.{WorldGoesOn, WhereFiled, World}
use Rattle.gob_texts.specs.Commands.{recovery_report, state_report}
use Rattle.gob_texts.specs.Refusals as texts
use Rattle.gob_top.specs.Answers.{Tells, Told, refusal_told}
use Rattle.gob_top.specs.World.{NoSourceCall}

-- the maps on the way, all of which stand for the one state
pub record SettlingTrail (job : List ℕ) (d e : Disk) : Type 0 where
  pub added : List Files
  pub trail : e.trail ≡ d.trail ++ added
  pub stands : e.files ≡ last_map d.files added
  pub goes : TrailOfSettling job d.files added
  pub reads : ReadersOfSettling job d.files added

-- whatever is told
pub record OnlySettles (job : List ℕ) (old new : World) : Type 0 where
  pub trail : WhereFiled (SettlingTrail job) old new
  pub only : WhereFiled (OnlySettled job) old new
  pub below : Along (OnlyBelow (under job [])) old.disk new.disk
  pub source : NoSourceCall old new
  pub goes_on : WorldGoesOn old new

-- this is told, unless the volume failed or no memory was left
abbrev pub TellsFirst : texts.Refusal → Told → Type 0
TellsFirst r t = (t ≡ refusal_told r) ⊎ (t ≡ refusal_told texts.volume_fault) ⊎ (t ≡ refusal_told texts.memory)

-- ---- recover

-- each answer with its cause
pub data IsRecovered (job : List ℕ) (old new : World) (t : Told) : Type 0 where
  -- the files are settled, and it is told whether a sequence was open
  recovered : (was_open : Bool) → IfSome old.disk (λ d. was_open ≡ is_some (d.files (sequence_name job)))
      → WhereFiled (SettledTo job) old new → Tells (0, recovery_report job was_open) t → IsRecovered job old new t
  -- the open sequence can't be done, and nothing was changed
  damaged : (name : List ℕ) → IfSome old.disk (λ d. IsDamaged job d.files name) → new.disk ≡ old.disk
      → Tells (refusal_told (texts.damaged name)) t → IsRecovered job old new t
  failure : Tells (refusal_told texts.volume_fault) t → Rose old.volume_faults new.volume_faults
      → IsRecovered job old new t
  starved : t ≡ refusal_told texts.memory → IsRecovered job old new t

pub record RecoverAnswered (job : List ℕ) (old new : World) (t : Told) : Type 0 where
  pub caused : IsRecovered job old new t
  pub due : IfSome old.disk (λ d. (name : List ℕ) → IsDamaged job d.files name → TellsFirst (texts.damaged name) t)
  pub settles : OnlySettles job old new

-- ---- report

-- each answer with its cause
pub data IsReported (job : List ℕ) (old new : World) (t : Told) : Type 0 where
  -- the files are settled, and the state that they tell is told
  reported : (found : Option State) → IfSome old.disk (λ d. SettledEntry job d.files found)
      → WhereFiled (SettledTo job) old new → Tells (0, state_report job found) t → IsReported job old new t
  -- a file of the job can't be read
  damaged : (name : List ℕ) → WhereFiled (LeftBroken job name) old new → Tells (refusal_told (texts.damaged name)) t
      → IsReported job old new t
  failure : Tells (refusal_told texts.volume_fault) t → Rose old.volume_faults new.volume_faults
      → IsReported job old new t
  starved : t ≡ refusal_told texts.memory → IsReported job old new t

pub record ReportAnswered (job : List ℕ) (old new : World) (t : Told) : Type 0 where
  pub caused : IsReported job old new t
  pub due : IfSome old.disk (λ d. (name : List ℕ) → IsBroken job d.files name → TellsFirst (texts.damaged name) t)
  pub settles : OnlySettles job old new
