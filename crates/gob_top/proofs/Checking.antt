-- What `check` tells.
use Rattle.std.proofs.Common.{◌≡◌, inl, ℕ, ◌≤◌, List, refl, ap, ◌∙◌, arith}
use Rattle.std.specs.declared.option.Option.{Option}
use Rattle.std.specs.declared.result.Result.TheVariants.{Err}
use Rattle.gob_device.specs.Disk.{Disk}
use Rattle.gob_texts.specs.Refusals as texts
use Rattle.gob_run.specs.World.{World}
use Rattle.gob_run.proofs.World.{with_volume}
use Rattle.gob_top.specs.Answers.{Told, refusal_told}
use Rattle.gob_top.specs.Checks.{CheckAnswered, check_told, checked, failure, starved}
use Rattle.gob_top.specs.Found.{NotFound}
use Rattle.gob_top.specs.Found as found
use Rattle.gob_top.specs.Jobs.{FileGives, Read}
use Rattle.gob_top.specs.World.{StaysPut}

pub same_world : (w : World) (old new : Option Disk) (before now : ℕ) → new ≡ old → now ≡ before
    → with_volume w new now ≡ with_volume w old before
same_world w old new before now disk faults = λ i. with_volume w (disk i) (faults i)

pub stays_put : (w : World) (old new : Option Disk) (before now : ℕ) → new ≡ old → before ≤ now
    → StaysPut (with_volume w old before) (with_volume w new now)
stays_put w old new before now disk later = record {
  disk = disk;
  source = record { supply = refl; faults = refl; planned = refl };
  goes_on = record { source = omega arith; planned = omega arith; volume = later };
}

-- the file gives no job, or wasn't read
pub not_checked : (job : List ℕ) (w : World) (old new : Option Disk) (before now : ℕ) (why : texts.Refusal) (t : Told)
    → NotFound job old before now why → new ≡ old → before ≤ now → t ≡ refusal_told why
    → CheckAnswered job (with_volume w old before) (with_volume w new now) t
not_checked job w old new before now why t (found.given gives unfailed) disk later tells = record {
  caused = checked (Err why) gives (inl tells) (same_world w old new before now disk unfailed);
  stays = stays_put w old new before now disk later;
}
not_checked job w old new before now why t (found.failed is rose) disk later tells = record {
  caused = failure (inl (tells ∙ ap refusal_told is)) rose;
  stays = stays_put w old new before now disk later;
}
not_checked job w old new before now why t (found.starved is) disk later tells = record {
  caused = starved (tells ∙ ap refusal_told is);
  stays = stays_put w old new before now disk later;
}

pub check_starved : (job : List ℕ) (w : World) (old new : Option Disk) (before now : ℕ) (t : Told) → new ≡ old
    → before ≤ now → t ≡ refusal_told texts.memory
    → CheckAnswered job (with_volume w old before) (with_volume w new now) t
check_starved job w old new before now t disk later tells =
    record { caused = starved tells; stays = stays_put w old new before now disk later }

pub job_checked : (job : List ℕ) (w : World) (old new : Option Disk) (before now : ℕ) (r : Read) (t : Told)
    → FileGives job old r → t ≡ check_told job r → new ≡ old → now ≡ before → before ≤ now
    → CheckAnswered job (with_volume w old before) (with_volume w new now) t
job_checked job w old new before now r t gives tells disk unfailed later = record {
  caused = checked r gives (inl tells) (same_world w old new before now disk unfailed);
  stays = stays_put w old new before now disk later;
}
