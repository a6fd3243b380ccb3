-- What `run JOB` tells, exactly where, and what it leaves.
use Rattle.std.specs.Prelude.{◌≡◌, ℕ, List}
use Rattle.std.specs.declared.result.Result.TheVariants.{Ok, Err}
use Rattle.gob_bytes.specs.Tables.{Table}
use Rattle.gob_device.specs.Causes.{Rose}
use Rattle.gob_meaning.specs.Job.{Job}
use Rattle.gob_jobs.specs.Laws.{IsJob}
use Rattle.gob_run.specs.Answers.{Answer, RunAnswered}
use Rattle.gob_run.specs.World.{World}
use Rattle.gob_run.specs.declared.fault.RunFault.{RunFault}
use Rattle.gob_run.specs.declared.fault.RunFault.TheVariants.{Damaged, Shrunk, Full, SourceFault, VolumeFault, Memory}
use Rattle.gob_state.specs.Committed.{judged_by, verdicts_in}
use Rattle.gob_texts.specs.Refusals as texts
use Rattle.gob_texts.specs.Report.{report_of, run_status}
use Rattle.gob_top.specs.Answers.{Tells, Told, refusal_told}
use Rattle.gob_top.specs.Jobs.{FileGives}
use Rattle.gob_top.specs.World.{StaysPut}

-- as what a run's fault is told
abbrev pub run_refusal : RunFault → texts.Refusal
run_refusal (Damaged name) = texts.damaged name
run_refusal (Shrunk part next size) = texts.shrunk part next size
run_refusal (Full ranges units) = texts.full ranges units
run_refusal SourceFault = texts.source_fault
run_refusal VolumeFault = texts.volume_fault
run_refusal Memory = texts.memory

-- what is told of a run
abbrev pub run_told : Job → Answer → Told
run_told job (Ok out) = (
  run_status (verdicts_in out.results),
  report_of job.name job.policy out.too_long (judged_by out.units out.results) out.committed out.after,
)
run_told job (Err fault) = refusal_told (run_refusal fault)

-- each answer with its cause
pub data RunTold (job : List ℕ) (old new : World) (t : Told) : Type 0 where
  -- the job's file gives no job, and nothing was done
  refusal : (r : texts.Refusal) → FileGives job old.disk (Err r) → Tells (refusal_told r) t → new ≡ old
      → RunTold job old new t
  -- it can't be read, or not held
  failure : Tells (refusal_told texts.volume_fault) t → Rose old.volume_faults new.volume_faults → StaysPut old new
      → RunTold job old new t
  starved : t ≡ refusal_told texts.memory → StaysPut old new → RunTold job old new t
  -- it gives this job, which had its run, in which these turns failed
  ran : (j : Job) (entries : Table (List ℕ)) → FileGives job old.disk (Ok (entries, j)) → IsJob job j
      → (failing : List ℕ) (a : Answer) → RunAnswered j failing a old new → Tells (run_told j a) t
      → RunTold job old new t
