-- What `run` tells.
use Rattle.std.proofs.Common.{◌≡◌, inl, ℕ, Bool, ◌≤◌, List, map, length, ap, subst, ◌∙◌, arith}
use Rattle.std.specs.declared.option.Option.{Option}
use Rattle.std.specs.declared.result.Result.TheVariants.{Ok}
use Rattle.std.proofs.lemmas.List.{length-map}
use Rattle.std.proofs.lemmas.Slice.Zip.{length-zip}
use Rattle.gob_bytes.specs.Tables.{Table}
use Rattle.gob_device.specs.Disk.{Disk}
use Rattle.gob_ledger.specs.Next.{Judged}
use Rattle.gob_jobs.specs.Laws.{IsJob}
use Rattle.gob_meaning.specs.Job.{Job}
use Rattle.gob_plan.specs.declared.units.Unit.{Unit as WorkUnit}
use Rattle.gob_plan.specs.declared.units.UnitResult.{UnitResult}
use Rattle.gob_state.specs.Committed.{judged_by, verdicts_in}
use Rattle.gob_texts.specs.Refusals as texts
use Rattle.gob_run.specs.Answers.{Answer, RunAnswered}
use Rattle.gob_run.specs.World.{World}
use Rattle.gob_run.proofs.World.{with_volume}
use Rattle.gob_top.specs.Answers.{Tells, Told, refusal_told}
use Rattle.gob_top.specs.Found.{NotFound}
use Rattle.gob_top.specs.Found as found
use Rattle.gob_top.specs.Jobs.{FileGives}
use Rattle.gob_top.specs.Runs.{RunTold, failure, ran, refusal, run_told, starved}
use Rattle.gob_top.proofs.Checking.{same_world, stays_put}

-- the file gives no job, or wasn't read
pub not_run : (job : List ℕ) (w : World) (old new : Option Disk) (before now : ℕ) (why : texts.Refusal) (t : Told)
    → NotFound job old before now why → new ≡ old → before ≤ now → t ≡ refusal_told why
    → RunTold job (with_volume w old before) (with_volume w new now) t
not_run job w old new before now why t (found.given gives unfailed) disk later tells =
    refusal why gives (inl tells) (same_world w old new before now disk unfailed)
not_run job w old new before now why t (found.failed is rose) disk later tells =
    failure (inl (tells ∙ ap refusal_told is)) rose (stays_put w old new before now disk later)
not_run job w old new before now why t (found.starved is) disk later tells =
    starved (tells ∙ ap refusal_told is) (stays_put w old new before now disk later)

-- what a run of a job leaves and tells, over the volume that the file was read from
pub job_ran : (job : List ℕ) (w new : World) (old read : Option Disk) (before after : ℕ) (j : Job)
    (entries : Table (List ℕ)) (t : Told) → FileGives job old (Ok (entries, j)) → IsJob job j → read ≡ old
    → after ≡ before
    → (failing : List ℕ) × (a : Answer) × RunAnswered j failing a (with_volume w read after) new
    × Tells (run_told j a) t
    → RunTold job (with_volume w old before) new t
job_ran job w new old read before after j entries t gives right disk unfailed done =
    ran j entries gives right done.0 done.1
    (subst (λ o. RunAnswered j done.0 done.1 o new) (same_world w old read before after disk unfailed) done.2) done.3

-- each unit was committed or not
pub all_told : (units : List WorkUnit) (results : List UnitResult) (is : Judged → Bool) (committed : List Bool)
    → length results ≡ length units → committed ≡ map is (judged_by units results) → length committed ≡ length units
all_told units results is committed counted same =
    ap length same ∙ (length-map (judged_by units results) is ∙ (length-zip units (verdicts_in results)
    ∙ (let e : length (verdicts_in results) ≡ length results = length-map results _ in omega (arith, e, counted))))
