-- What is told of the command that the words are.
use Rattle.std.proofs.Common.{◌≡◌, ℕ, List, sym, subst, Some, None, codes}
use Rattle.std.specs.declared.option.Option.{Option}
use Rattle.gob_run.specs.World.{World}
use Rattle.gob_top.specs.Answers.{Told, job_of_words}
use Rattle.gob_top.specs.Checks.{CheckAnswered}
use Rattle.gob_top.specs.Commands.{Answered, UsageAnswered, WithVerb}
use Rattle.gob_top.specs.Lines.{Lacks}
use Rattle.gob_top.specs.Runs.{RunTold}
use Rattle.gob_top.specs.Settlings.{RecoverAnswered, ReportAnswered}

lacking : (o : Option (List ℕ)) (P : List ℕ → Type 0) (A : Type 0) → o ≡ None → A → WithVerb o P A
lacking o P A is a = subst (λ v. WithVerb v P A) (sym is) a

having : (o : Option (List ℕ)) (job : List ℕ) (P : List ℕ → Type 0) (A : Type 0) → o ≡ Some job → P job
    → WithVerb o P A
having o job P A is p = subst (λ v. WithVerb v P A) (sym is) p

-- what is told where the first verbs have no job
abbrev FromCheck : List (List ℕ) → World → World → Told → Type 0
FromCheck words old new t =
    WithVerb (job_of_words (codes "check") words) (λ job. CheckAnswered job old new t) (UsageAnswered old new t)

abbrev FromReport : List (List ℕ) → World → World → Told → Type 0
FromReport words old new t =
    WithVerb (job_of_words (codes "report") words) (λ job. ReportAnswered job old new t) (FromCheck words old new t)

abbrev FromRecover : List (List ℕ) → World → World → Told → Type 0
FromRecover words old new t =
    WithVerb (job_of_words (codes "recover") words) (λ job. RecoverAnswered job old new t) (FromReport words old new t)

pub run_answered : (words : List (List ℕ)) (job : List ℕ) (old new : World) (t : Told)
    → job_of_words (codes "run") words ≡ Some job → RunTold job old new t → Answered words old new t
run_answered words job old new t is told =
    having (job_of_words (codes "run") words) job (λ j. RunTold j old new t) (FromRecover words old new t) is told

past_run : (words : List (List ℕ)) (old new : World) (t : Told) → Lacks (codes "run") words
    → FromRecover words old new t → Answered words old new t
past_run words old new t lacks told =
    lacking (job_of_words (codes "run") words) (λ j. RunTold j old new t) (FromRecover words old new t) lacks told

past_recover : (words : List (List ℕ)) (old new : World) (t : Told) → Lacks (codes "recover") words
    → FromReport words old new t → FromRecover words old new t
past_recover words old new t lacks told =
    lacking (job_of_words (codes "recover") words) (λ j. RecoverAnswered j old new t) (FromReport words old new t) lacks
    told

past_report : (words : List (List ℕ)) (old new : World) (t : Told) → Lacks (codes "report") words
    → FromCheck words old new t → FromReport words old new t
past_report words old new t lacks told =
    lacking (job_of_words (codes "report") words) (λ j. ReportAnswered j old new t) (FromCheck words old new t) lacks
    told

pub recover_answered : (words : List (List ℕ)) (job : List ℕ) (old new : World) (t : Told)
    → Lacks (codes "run") words × (job_of_words (codes "recover") words ≡ Some job)
    → RecoverAnswered job old new t → Answered words old new t
recover_answered words job old new t (first, is) told =
    past_run words old new t first
    (having (job_of_words (codes "recover") words) job (λ j. RecoverAnswered j old new t) (FromReport words old new t)
    is told)

pub report_answered : (words : List (List ℕ)) (job : List ℕ) (old new : World) (t : Told)
    → Lacks (codes "run") words × Lacks (codes "recover") words
    × (job_of_words (codes "report") words ≡ Some job) → ReportAnswered job old new t → Answered words old new t
report_answered words job old new t (first, second, is) told =
    past_run words old new t first
    (past_recover words old new t second
    (having (job_of_words (codes "report") words) job (λ j. ReportAnswered j old new t) (FromCheck words old new t) is
    told))

pub check_answered : (words : List (List ℕ)) (job : List ℕ) (old new : World) (t : Told)
    → Lacks (codes "run") words × Lacks (codes "recover") words × Lacks (codes "report") words
    × (job_of_words (codes "check") words ≡ Some job) → CheckAnswered job old new t → Answered words old new t
check_answered words job old new t (first, second, third, is) told =
    past_run words old new t first
    (past_recover words old new t second
    (past_report words old new t third
    (having (job_of_words (codes "check") words) job (λ j. CheckAnswered j old new t) (UsageAnswered old new t) is
    told)))
