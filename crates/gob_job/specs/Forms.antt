-- What the words of an element are, before they are put into a test, a step or a rule.
use Rattle.std.specs.Prelude.{ℕ, List, [], ◌∷◌}
use Rattle.std.specs.declared.option.Option.TheVariants.{None}
use Rattle.gob_bytes.specs.Numbers.{number_read}
use Rattle.gob_jobs.specs.Words.{both, value_word}
use Rattle.gob_jobs.specs.Elements.{Form, column_word}

-- the text of the only word
abbrev pub only_value : Form (List ℕ)
only_value (v ∷ []) = value_word v
only_value _ = None

-- two numbers
abbrev pub two_number_form : Form (ℕ × ℕ)
two_number_form (low ∷ high ∷ []) = both (λ l h. (l, h)) (number_read low) (number_read high)
two_number_form _ = None

-- the only word, a column name
abbrev pub only_name : Form (List ℕ)
only_name (c ∷ []) = column_word c
only_name _ = None

-- two column names
abbrev pub two_names : Form (List ℕ × List ℕ)
two_names (c ∷ n ∷ []) = both (λ x y. (x, y)) (column_word c) (column_word n)
two_names _ = None
