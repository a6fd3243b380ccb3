-- What steps in code are, and the names by which they are done.
use Rattle.std.specs.Prelude.{◌≡◌, ℕ, Bool, ◌&&◌, not, List, [], MatchOption}
use Rattle.std.specs.declared.option.Option.{Option}
use Rattle.std.specs.Str.{bytes_eq}
use Rattle.gob_bytes.specs.Paths.{begins_with, under, staging, sequence_name}
use Rattle.gob_device.specs.Names.{is_pathname}
use Rattle.gob_recovery.specs.Sequence.{CommitStep, move, remove, WellFormed, Reads, is_file_name}
use Rattle.gob_recovery.specs.Commits.{staged_sequence}
use Rattle.gob_seq.specs.declared.sequence.SeqStep.{SeqStep}
use Rattle.gob_seq.specs.declared.sequence.SeqStep.TheVariants.{Move, Remove}
use Rattle.gob_seq.specs.declared.place.Place.{Place}

abbrev pub commit_step_of : SeqStep → CommitStep
commit_step_of (Move source target) = move source target
commit_step_of (Remove name) = remove name

-- the names of a job
abbrev pub job_place : List ℕ → Place
job_place job = record {
  folder = under job [];
  staging = staging job;
  staged = staged_sequence job;
  sequence = sequence_name job;
}

-- by a job's names: a staged file, but not the staged sequence
abbrev pub staged_at : Place → List ℕ → Bool
staged_at place name = begins_with place.staging name && not (bytes_eq name place.staged)

-- by a job's names: a file of the job that is neither staged nor the open sequence
abbrev pub lasting_at : Place → List ℕ → Bool
lasting_at place name =
    begins_with place.folder name && not (begins_with place.staging name) && not (bytes_eq name place.sequence)

-- by a job's names: a step that a sequence of the job may have
abbrev pub fits_at : Place → CommitStep → Bool
fits_at place (move source target) =
    staged_at place source && lasting_at place target && is_file_name source && is_file_name target
fits_at place (remove name) = lasting_at place name && is_file_name name

-- None exactly where the steps don't fit the job, and else their sequence
abbrev pub NewIs : List ℕ → List CommitStep → Option (List CommitStep) → Type 0
NewIs job steps made = MatchOption made (WellFormed job steps → ⊥) (λ s. (s ≡ steps) × WellFormed job steps)

-- None exactly where the bytes aren't the text of steps that fit the job, and else the sequence that they are the text
-- of
abbrev pub ReadIs : List ℕ → List ℕ → Option (List CommitStep) → Type 0
ReadIs job bytes read = MatchOption read ((steps : List CommitStep) → Reads job bytes steps → ⊥) (Reads job bytes)

-- a volume's calls may be given the step's names
abbrev pub is_callable : CommitStep → Bool
is_callable (move source target) = is_pathname source && is_pathname target && not (bytes_eq source target)
is_callable (remove name) = is_pathname name
