-- What the code finds in a job's file, or why it finds no job.
use Rattle.std.specs.Prelude.{◌≡◌, ℕ, List}
use Rattle.std.specs.declared.option.Option.{Option}
use Rattle.std.specs.declared.result.Result.TheVariants.{Err}
use Rattle.gob_bytes.specs.Tables.{Table}
use Rattle.gob_device.specs.Causes.{Rose}
use Rattle.gob_device.specs.Disk.{Disk}
use Rattle.gob_job.specs.Jobs.{job_from}
use Rattle.gob_meaning.specs.Job.{Job}
use Rattle.gob_texts.specs.Refusals as texts
use Rattle.gob_top.specs.Jobs.{FileGives}
use Rattle.gob_top.specs.declared.job.JobFile.{JobFile}

abbrev pub found_in : JobFile → Table (List ℕ) × Job
found_in file = (file.props, job_from file.job)

-- each reason with its cause
pub data NotFound (job : List ℕ) (disk : Option Disk) (before now : ℕ) (r : texts.Refusal) : Type 0 where
  given : FileGives job disk (Err r) → now ≡ before → NotFound job disk before now r
  failed : r ≡ texts.volume_fault → Rose before now → NotFound job disk before now r
  starved : r ≡ texts.memory → NotFound job disk before now r
