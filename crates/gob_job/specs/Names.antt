-- A word of a table with its value.
use Rattle.std.specs.Prelude.{ℕ, List}
use Rattle.gob_job.specs.declared.tables.Named.{Named}

-- the word and the value
abbrev pub word_and_value : {T : Type 0} → Named T → List ℕ × T
word_and_value n = (n.name.now, n.value)
