-- What is taken off the front of a sequence's text.
use Rattle.std.specs.Prelude.{◌≡◌, ℕ, Bool, true, ◌&&◌, List, [], ◌∷◌, ◌++◌, length, codes, IfSome, MatchOption}
use Rattle.std.specs.declared.option.Option.{Option}
use Rattle.std.specs.declared.option.Option.TheVariants.{Some}
use Rattle.std.specs.List.{list_all, flat_map}
use Rattle.gob_bytes.specs.Words.{numbered_line}
use Rattle.gob_text.specs.Words.{EndsWord}
use Rattle.gob_recovery.specs.Sequence.{CommitStep, move, remove, is_file_name, step_line}
use Rattle.gob_seq.specs.declared.read.Line.{Line}
use Rattle.gob_seq.specs.declared.read.Line.TheVariants.{Step, NoStep, Damaged}
use Rattle.gob_seq.specs.Steps.{commit_step_of}

-- a sequence can spell the step's names
abbrev pub is_named : CommitStep → Bool
is_named (move source target) = is_file_name source && is_file_name target
is_named (remove name) = is_file_name name

abbrev pub last_line : ℕ → List ℕ
last_line n = numbered_line (codes "end") (n ∷ [])

-- the text is the lines of these steps and a last line with this number
pub record IsBody (steps : List CommitStep) (n : ℕ) (text : List ℕ) : Type 0 where
  pub named : list_all is_named steps ≡ true
  pub spelled : text ≡ flat_map step_line steps ++ last_line n

-- the step's line was taken off, and the text can't begin with another
pub record StepTaken (old new : List ℕ) (step : CommitStep) : Type 0 where
  pub named : is_named step ≡ true
  pub spelled : old ≡ step_line step ++ new
  pub only : (steps : List CommitStep) (n : ℕ) → IsBody steps n old
      → (later : List CommitStep) × (steps ≡ step ∷ later) × IsBody later n new

-- no step's line stands there
pub record NoneTaken (old new : List ℕ) : Type 0 where
  pub unchanged : new ≡ old
  pub only : (steps : List CommitStep) (n : ℕ) → IsBody steps n old → steps ≡ []

-- a step's line, the front of another text, or the front of no text at all
abbrev pub IsStepLine : List ℕ → List ℕ → Line → Type 0
IsStepLine old new (Step step) = StepTaken old new (commit_step_of step)
IsStepLine old new NoStep = NoneTaken old new
IsStepLine old new Damaged = (steps : List CommitStep) (n : ℕ) → IsBody steps n old → ⊥

-- the text is that of these steps and their number, and of no others
pub record BodyRead (text : List ℕ) (steps : List CommitStep) : Type 0 where
  pub body : IsBody steps (length steps) text
  pub only : (others : List CommitStep) (n : ℕ) → IsBody others n text → others ≡ steps

-- None exactly where the text isn't that of any steps and their number, and else these steps
abbrev pub BodyIs : List ℕ → Option (List CommitStep) → Type 0
BodyIs text read = MatchOption read ((steps : List CommitStep) → IsBody steps (length steps) text → ⊥) (BodyRead text)

-- a name was taken off, and the text can't begin with another
pub record NameTaken (old new : List ℕ) (taken : Option (List ℕ)) : Type 0 where
  pub spelled : IfSome taken (λ name. (is_file_name name ≡ true) × (old ≡ name ++ new))
  pub read : (name after : List ℕ) → is_file_name name ≡ true → EndsWord after → old ≡ name ++ after
      → (taken ≡ Some name) × (new ≡ after)
