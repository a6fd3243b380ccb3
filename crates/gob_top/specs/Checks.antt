-- What `check JOB` tells, exactly where.
use Rattle.std.specs.Prelude.{◌≡◌, ℕ, List}
use Rattle.std.specs.declared.result.Result.TheVariants.{Ok, Err}
use Rattle.gob_device.specs.Causes.{Rose}
use Rattle.gob_jobs.specs.Reading.{unknown_keys}
use Rattle.gob_run.specs.World.{World}
use Rattle.gob_texts.specs.Commands.{check_report}
use Rattle.gob_texts.specs.Refusals as texts
use Rattle.gob_top.specs.Answers.{Tells, Told, refusal_told}
use Rattle.gob_top.specs.Jobs.{FileGives, Read}
use Rattle.gob_top.specs.World.{StaysPut}

-- what is told of a job's file: its branches and the keys that aren't known, or its first fault
abbrev pub check_told : List ℕ → Read → Told
check_told job (Ok found) = (0, check_report job found.1.plan (unknown_keys found.0))
check_told job (Err r) = refusal_told r

-- each answer with its cause
pub data IsChecked (job : List ℕ) (old new : World) (t : Told) : Type 0 where
  checked : (r : Read) → FileGives job old.disk r → Tells (check_told job r) t → new ≡ old → IsChecked job old new t
  failure : Tells (refusal_told texts.volume_fault) t → Rose old.volume_faults new.volume_faults
      → IsChecked job old new t
  starved : t ≡ refusal_told texts.memory → IsChecked job old new t

-- nothing is changed, and the source isn't asked
pub record CheckAnswered (job : List ℕ) (old new : World) (t : Told) : Type 0 where
  pub caused : IsChecked job old new t
  pub stays : StaysPut old new
