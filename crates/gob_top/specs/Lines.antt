-- What the words of a command line ask for.
use Rattle.std.specs.Prelude.{◌≡◌, ℕ, List, codes}
use Rattle.std.specs.declared.option.Option.{Option}
use Rattle.std.specs.declared.option.Option.TheVariants.{None, Some}
use Rattle.gob_top.specs.Answers.{job_of_words}
use Rattle.gob_top.specs.declared.command.Command.{Command}
use Rattle.gob_top.specs.declared.command.Command.TheVariants.{Run, Recover, Report, Check}

-- the verb has no job
abbrev pub Lacks : List ℕ → List (List ℕ) → Type 0
Lacks verb words = job_of_words verb words ≡ None

-- the first of the verbs that has a job
abbrev pub IsCommand : List (List ℕ) → Option Command → Type 0
IsCommand words (Some (Run job)) = job_of_words (codes "run") words ≡ Some job.now
IsCommand words (Some (Recover job)) =
    Lacks (codes "run") words × (job_of_words (codes "recover") words ≡ Some job.now)
IsCommand words (Some (Report job)) =
    Lacks (codes "run") words × Lacks (codes "recover") words × (job_of_words (codes "report") words ≡ Some job.now)
IsCommand words (Some (Check job)) =
    Lacks (codes "run") words × Lacks (codes "recover") words × Lacks (codes "report") words
    × (job_of_words (codes "check") words ≡ Some job.now)
IsCommand words None =
    Lacks (codes "run") words × Lacks (codes "recover") words × Lacks (codes "report") words
    × Lacks (codes "check") words
