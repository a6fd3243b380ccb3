-- The names of a job's files on its volume.
use Rattle.std.specs.Prelude.{ℕ, Bool, true, cond, nat_eq, ◌||◌, List, [], ◌∷◌, ◌++◌, codes}
use Rattle.std.specs.List.{starts_with}
use Rattle.std.specs.Fmt.{decimal}
use Rattle.std.specs.Str.{bytes_eq}
use Rattle.gob_bytes.specs.Digits.{offset}

abbrev pub begins_with : List ℕ → List ℕ → Bool
begins_with front name = starts_with nat_eq name front

-- a path in the job's folder
abbrev pub under : List ℕ → List ℕ → List ℕ
under job path = job ++ 47 ∷ path

-- the text that describes a job
abbrev pub job_file : List ℕ → List ℕ
job_file job = codes "jobs/" ++ job ++ codes ".pull"

-- what the job has committed
abbrev pub state_name : List ℕ → List ℕ
state_name job = under job (codes "state")

-- the folder of the changes of what the job has committed
abbrev pub delta_folder : List ℕ → List ℕ
delta_folder job = under job (codes "delta/")

-- the change that the commit with this number made
abbrev pub delta_name : List ℕ → ℕ → List ℕ
delta_name job run = delta_folder job ++ offset run

-- a file that tells what the job has committed
abbrev pub keeps_state : List ℕ → List ℕ → Bool
keeps_state job name = bytes_eq name (state_name job) || begins_with (delta_folder job) name

-- an open commit sequence
abbrev pub sequence_name : List ℕ → List ℕ
sequence_name job = under job (codes "seq")

-- the folder of staged files
abbrev pub staging : List ℕ → List ℕ
staging job = under job (codes "stage/")

-- the folder of one attempt at a unit
abbrev pub attempt_folder : List ℕ → ℕ → ℕ → List ℕ
attempt_folder job unit attempt = staging job ++ decimal unit ++ 45 ∷ decimal attempt ++ 47 ∷ []

-- a file that the job publishes, or one of its error files
abbrev pub is_published : List ℕ → List ℕ → Bool
is_published job name = cond (begins_with (under job (codes "out/")) name) true
    (begins_with (under job (codes "err/")) name)
