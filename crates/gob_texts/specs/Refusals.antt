-- What a call that is refused writes: a line that says why, and a line with the status.
use Rattle.std.specs.Prelude.{ℕ, List, [], ◌∷◌, ◌++◌, codes}
use Rattle.std.specs.Fmt.{decimal}
use Rattle.gob_bytes.specs.Escapes.{escape_of}
use Rattle.gob_bytes.specs.Words.{words, numbered_line}

abbrev pub status_line : ℕ → List ℕ
status_line status = numbered_line (codes "status") (status ∷ [])

-- why, as a first word and others, and the status
abbrev pub refused_text : List ℕ → List (List ℕ) → ℕ → List ℕ
refused_text first others status = words first others ++ status_line status

-- why a command line isn't done
pub data Refusal : Type 0 where
  -- the words are no command line
  usage : Refusal
  -- the job file isn't there, or isn't in its grammar: an escape in the logical line that begins here
  no_job : Refusal
  not_utf8 : Refusal
  bad_escape : (line : ℕ) → Refusal
  -- a key of it, or a column that one of its values names
  missing : (key : List ℕ) → Refusal
  bad_value : (key : List ℕ) → Refusal
  bad_policy_count : (key : List ℕ) → Refusal
  no_column : (key column : List ℕ) → Refusal
  bad_kind : (key column : List ℕ) → Refusal
  interpolation : (key : List ℕ) → Refusal
  -- a file of the job that can't be read, or a partition with fewer bytes than were taken of it
  damaged : (name : List ℕ) → Refusal
  shrunk : (part : List ℕ) (next size : ℕ) → Refusal
  -- a device that failed, or want of memory
  source_fault : Refusal
  volume_fault : Refusal
  memory : Refusal
  -- more ranges and new units than a state may have
  full : (ranges units : ℕ) → Refusal

-- the command lines
abbrev pub usage_line : List ℕ
usage_line = words (codes "usage: run JOB, recover JOB, report JOB, check JOB, drill N, drill N stops") []

abbrev pub refused_line : List (List ℕ) → List ℕ
refused_line why = words (codes "refused") why

abbrev pub refusal_line : Refusal → List ℕ
refusal_line usage = usage_line
refusal_line no_job = refused_line (codes "no-job" ∷ [])
refusal_line not_utf8 = refused_line (codes "not-utf8" ∷ [])
refusal_line (bad_escape line) = refused_line (codes "bad-escape" ∷ decimal line ∷ [])
refusal_line (missing key) = refused_line (codes "missing" ∷ key ∷ [])
refusal_line (bad_value key) = refused_line (codes "bad-value" ∷ key ∷ [])
refusal_line (bad_policy_count key) = refused_line (codes "bad-policy-count" ∷ key ∷ [])
refusal_line (no_column key column) = refused_line (codes "no-column" ∷ key ∷ column ∷ [])
refusal_line (bad_kind key column) = refused_line (codes "bad-kind" ∷ key ∷ column ∷ [])
refusal_line (interpolation key) = refused_line (codes "interpolation" ∷ key ∷ [])
refusal_line (damaged name) = refused_line (codes "damaged" ∷ name ∷ [])
refusal_line (shrunk part next size) = refused_line (codes "shrunk" ∷ escape_of part ∷ decimal next ∷ decimal size ∷ [])
refusal_line source_fault = refused_line (codes "source-fault" ∷ [])
refusal_line volume_fault = refused_line (codes "volume-fault" ∷ [])
refusal_line memory = refused_line (codes "memory" ∷ [])
refusal_line (full ranges units) = refused_line (codes "full" ∷ decimal ranges ∷ decimal units ∷ [])

-- the exit status
abbrev pub refusal_status : Refusal → ℕ
refusal_status usage = 2
refusal_status no_job = 3
refusal_status not_utf8 = 3
refusal_status (bad_escape line) = 3
refusal_status (missing key) = 3
refusal_status (bad_value key) = 3
refusal_status (bad_policy_count key) = 3
refusal_status (no_column key column) = 3
refusal_status (bad_kind key column) = 3
refusal_status (interpolation key) = 3
refusal_status (damaged name) = 4
refusal_status (shrunk part next size) = 4
refusal_status source_fault = 5
refusal_status volume_fault = 6
refusal_status memory = 8
refusal_status (full ranges units) = 9

unfoldable pub refusal_text : Refusal → List ℕ
refusal_text r = refusal_line r ++ status_line (refusal_status r)
