-- What is told of a command is told of it, unless no memory is left for the text.
use Rattle.std.proofs.Common.{◌≡◌, inl, inr, ℕ, List, ap, ◌∙◌, Some, None, codes, IfSome}
use Rattle.std.specs.declared.option.Option.{Option}
use Rattle.std.specs.declared.result.Result.{Result}
use Rattle.std.specs.declared.result.Result.TheVariants.{Err}
use Rattle.gob_device.specs.Disk.{Disk}
use Rattle.gob_report.specs.Refusals.{told_as}
use Rattle.gob_recovery.specs.Settle.{IsDamaged}
use Rattle.gob_texts.specs.Commands.{recovery_report, state_report}
use Rattle.gob_texts.specs.Refusals as texts
use Rattle.gob_run.specs.Entry.{IsBroken}
use Rattle.gob_run.specs.World.{World}
use Rattle.gob_top.specs.Answers.{Tells, Told, job_of_words, refusal_told}
use Rattle.gob_top.specs.Checks.{CheckAnswered, IsChecked}
use Rattle.gob_top.specs.Checks as checks
use Rattle.gob_top.specs.Commands.{Answered, WithVerb}
use Rattle.gob_top.specs.Made.{told_when_done}
use Rattle.gob_top.specs.Runs.{RunTold}
use Rattle.gob_top.specs.Runs as runs
use Rattle.gob_top.specs.Settlings.{IsRecovered, IsReported, RecoverAnswered, ReportAnswered, TellsFirst}
use Rattle.gob_top.specs.Settlings as settlings
use Rattle.gob_top.specs.declared.answer.Report.{Report}
use Rattle.gob_top.specs.declared.stopped.Stopped.{Stopped}

-- what is told where a call stopped
pub told_stopped : {r : Result Report Stopped} {stopped : Stopped} {why : texts.Refusal} → r ≡ Err stopped
    → told_as stopped.refusal ≡ why → told_when_done r ≡ refusal_told why
told_stopped is same = ap told_when_done is ∙ ap refusal_told same

-- ---- no memory for the text

tells_more : (due t u : Told) → Tells due t → Tells t u → Tells due u
tells_more due t u (inl is) (inl same) = inl (same ∙ is)
tells_more due t u (inr none) (inl same) = inr (same ∙ none)
tells_more due t u told (inr none) = inr none

starved_more : (t u : Told) → t ≡ refusal_told texts.memory → Tells t u → u ≡ refusal_told texts.memory
starved_more t u none (inl same) = same ∙ none
starved_more t u none (inr starved) = starved

first_more : (r : texts.Refusal) (t u : Told) → TellsFirst r t → Tells t u → TellsFirst r u
first_more r t u (inl is) (inl same) = inl (same ∙ is)
first_more r t u (inr (inl is)) (inl same) = inr (inl (same ∙ is))
first_more r t u (inr (inr is)) (inl same) = inr (inr (same ∙ is))
first_more r t u told (inr none) = inr (inr none)

run_more : (job : List ℕ) (old new : World) (t u : Told) → RunTold job old new t → Tells t u → RunTold job old new u
run_more job old new t u (runs.refusal r given told same) more =
    runs.refusal r given (tells_more (refusal_told r) t u told more) same
run_more job old new t u (runs.failure told rose stays) more =
    runs.failure (tells_more (refusal_told texts.volume_fault) t u told more) rose stays
run_more job old new t u (runs.starved none stays) more = runs.starved (starved_more t u none more) stays
run_more job old new t u (runs.ran j entries given right failing a answered told) more =
    runs.ran j entries given right failing a answered (tells_more (runs.run_told j a) t u told more)

checked_more : (job : List ℕ) (old new : World) (t u : Told) → IsChecked job old new t → Tells t u
    → IsChecked job old new u
checked_more job old new t u (checks.checked r given told same) more =
    checks.checked r given (tells_more (checks.check_told job r) t u told more) same
checked_more job old new t u (checks.failure told rose) more =
    checks.failure (tells_more (refusal_told texts.volume_fault) t u told more) rose
checked_more job old new t u (checks.starved none) more = checks.starved (starved_more t u none more)

check_more : (job : List ℕ) (old new : World) (t u : Told) → CheckAnswered job old new t → Tells t u
    → CheckAnswered job old new u
check_more job old new t u a more =
    record { caused = checked_more job old new t u a.caused more; stays = a.stays }

recovered_more : (job : List ℕ) (old new : World) (t u : Told) → IsRecovered job old new t → Tells t u
    → IsRecovered job old new u
recovered_more job old new t u (settlings.recovered was_open was settled told) more =
    settlings.recovered was_open was settled (tells_more (0, recovery_report job was_open) t u told more)
recovered_more job old new t u (settlings.damaged name damaged same told) more =
    settlings.damaged name damaged same (tells_more (refusal_told (texts.damaged name)) t u told more)
recovered_more job old new t u (settlings.failure told rose) more =
    settlings.failure (tells_more (refusal_told texts.volume_fault) t u told more) rose
recovered_more job old new t u (settlings.starved none) more = settlings.starved (starved_more t u none more)

reported_more : (job : List ℕ) (old new : World) (t u : Told) → IsReported job old new t → Tells t u
    → IsReported job old new u
reported_more job old new t u (settlings.reported found entry settled told) more =
    settlings.reported found entry settled (tells_more (0, state_report job found) t u told more)
reported_more job old new t u (settlings.damaged name left told) more =
    settlings.damaged name left (tells_more (refusal_told (texts.damaged name)) t u told more)
reported_more job old new t u (settlings.failure told rose) more =
    settlings.failure (tells_more (refusal_told texts.volume_fault) t u told more) rose
reported_more job old new t u (settlings.starved none) more = settlings.starved (starved_more t u none more)

due_more : (P : Disk → List ℕ → Type 0) (o : Option Disk) (t u : Told)
    → IfSome o (λ d. (name : List ℕ) → P d name → TellsFirst (texts.damaged name) t) → Tells t u
    → IfSome o (λ d. (name : List ℕ) → P d name → TellsFirst (texts.damaged name) u)
due_more P None t u due more = tt
due_more P (Some d) t u due more = λ name p. first_more (texts.damaged name) t u (due name p) more

recover_more : (job : List ℕ) (old new : World) (t u : Told) → RecoverAnswered job old new t → Tells t u
    → RecoverAnswered job old new u
recover_more job old new t u a more = record {
  caused = recovered_more job old new t u a.caused more;
  due = due_more (λ d name. IsDamaged job d.files name) old.disk t u a.due more;
  settles = a.settles;
}

report_more : (job : List ℕ) (old new : World) (t u : Told) → ReportAnswered job old new t → Tells t u
    → ReportAnswered job old new u
report_more job old new t u a more = record {
  caused = reported_more job old new t u a.caused more;
  due = due_more (λ d name. IsBroken job d.files name) old.disk t u a.due more;
  settles = a.settles;
}

-- ---- any command line

verb_more : {P Q : List ℕ → Type 0} {A B : Type 0} (o : Option (List ℕ)) → ((job : List ℕ) → P job → Q job)
    → (A → B) → WithVerb o P A → WithVerb o Q B
verb_more None here later told = later told
verb_more (Some job) here later told = here job told

pub answered_more : (words : List (List ℕ)) (old new : World) (t u : Told) → Answered words old new t → Tells t u
    → Answered words old new u
answered_more words old new t u a more =
    verb_more (job_of_words (codes "run") words) (λ job r. run_more job old new t u r more)
    (verb_more (job_of_words (codes "recover") words) (λ job r. recover_more job old new t u r more)
    (verb_more (job_of_words (codes "report") words) (λ job r. report_more job old new t u r more)
    (verb_more (job_of_words (codes "check") words) (λ job r. check_more job old new t u r more)
    (λ r. record { told = tells_more (refusal_told texts.usage) t u r.told more; same = r.same })))) a
