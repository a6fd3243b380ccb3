-- A commit sequence: the steps that publish what was staged, and their one spelling.
use Rattle.std.specs.Prelude.{◌≡◌, ℕ, Bool, true, false, not, ◌&&◌, ◌||◌, nat_eq, List, [], ◌∷◌, ◌++◌, length, codes}
use Rattle.std.specs.List.{list_all, flat_map, IsDistinct}
use Rattle.std.specs.Str.{bytes_eq}
use Rattle.gob_bytes.specs.Escapes.{is_plain}
use Rattle.gob_bytes.specs.Paths.{begins_with, under, staging, sequence_name}
use Rattle.gob_bytes.specs.Words.{words, numbered_line}

-- a staged file gets its lasting name, or a name is taken away
pub data CommitStep : Type 0 where
  move : (source target : List ℕ) → CommitStep
  remove : (name : List ℕ) → CommitStep

-- a byte that a name in a sequence may have: a plain one, '/', '@' or '%'
abbrev pub is_sequence_byte : ℕ → Bool
is_sequence_byte b = is_plain b || nat_eq b 47 || nat_eq b 64 || nat_eq b 37

-- a name that a sequence can spell
abbrev pub is_file_name : List ℕ → Bool
is_file_name [] = false
is_file_name (b ∷ bs) = list_all is_sequence_byte (b ∷ bs)

-- a staged file, but not the staged sequence
abbrev pub is_staged : List ℕ → List ℕ → Bool
is_staged job name = begins_with (staging job) name && not (bytes_eq name (staging job ++ codes "seq"))

-- a file of the job that is neither staged nor the open sequence
abbrev pub is_lasting : List ℕ → List ℕ → Bool
is_lasting job name = begins_with (under job []) name && not (begins_with (staging job) name) && not
    (bytes_eq name (sequence_name job))

-- a step that a sequence of the job may have
abbrev pub step_fits : List ℕ → CommitStep → Bool
step_fits job (move source target) = is_staged job source && is_lasting job target && is_file_name source &&
    is_file_name target
step_fits job (remove name) = is_lasting job name && is_file_name name

abbrev pub names_in : CommitStep → List (List ℕ)
names_in (move source target) = source ∷ target ∷ []
names_in (remove name) = name ∷ []

-- each step fits the job, and no name stands twice
pub record WellFormed (job : List ℕ) (steps : List CommitStep) : Type 0 where
  pub each : list_all (step_fits job) steps ≡ true
  pub differ : IsDistinct bytes_eq (flat_map names_in steps)

abbrev pub step_line : CommitStep → List ℕ
step_line (move source target) = words (codes "move") (source ∷ target ∷ [])
step_line (remove name) = words (codes "remove") (name ∷ [])

-- the file of an open sequence
unfoldable pub sequence_text : List CommitStep → List ℕ
sequence_text steps = words (codes "gobblin-sequence") (codes "1" ∷ []) ++ flat_map step_line steps
    ++ numbered_line (codes "end") (length steps ∷ [])

-- these bytes read as these steps
pub record Reads (job bytes : List ℕ) (steps : List CommitStep) : Type 0 where
  pub spelled : bytes ≡ sequence_text steps
  pub fits : WellFormed job steps
