-- What each command line tells.
use Rattle.std.specs.Prelude.{◌≡◌, ℕ, List, MatchOption, codes}
use Rattle.std.specs.declared.option.Option.{Option}
use Rattle.gob_run.specs.World.{World}
use Rattle.gob_texts.specs.Refusals as texts
use Rattle.gob_top.specs.Answers.{Tells, Told, job_of_words, refusal_told}
use Rattle.gob_top.specs.Checks.{CheckAnswered}
use Rattle.gob_top.specs.Runs.{RunTold}
use Rattle.gob_top.specs.Settlings.{RecoverAnswered, ReportAnswered}

-- words that are no command line change nothing
pub record UsageAnswered (old new : World) (t : Told) : Type 0 where
  pub told : Tells (refusal_told texts.usage) t
  pub same : new ≡ old

-- of the job that this verb has, or else
abbrev pub WithVerb : Option (List ℕ) → (List ℕ → Type 0) → Type 0 → Type 0
WithVerb job answered other = MatchOption job other answered

abbrev pub Answered : List (List ℕ) → World → World → Told → Type 0
Answered words old new t =
    WithVerb (job_of_words (codes "run") words) (λ job. RunTold job old new t)
    (WithVerb (job_of_words (codes "recover") words) (λ job. RecoverAnswered job old new t)
    (WithVerb (job_of_words (codes "report") words) (λ job. ReportAnswered job old new t)
    (WithVerb (job_of_words (codes "check") words) (λ job. CheckAnswered job old new t)
    (UsageAnswered old new t))))
