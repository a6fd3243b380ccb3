-- What a word of a line is written as.
use Rattle.std.specs.Prelude.{ℕ, List, ◌∷◌, ◌++◌}
use Rattle.std.specs.List.{flat_map}
use Rattle.std.specs.Fmt.{decimal}
use Rattle.gob_bytes.specs.Escapes.{escape_of}
use Rattle.gob_bytes.specs.Words.{words}
use Rattle.gob_plan.specs.declared.units.BranchCounts.{BranchCounts}
use Rattle.gob_texts.specs.Report.{branch_tally}
use Rattle.gob_report.specs.declared.lines.Word.{Word}
use Rattle.gob_report.specs.declared.lines.Word.TheVariants.{Plain, Name, Number}

abbrev pub word_text : Word → List ℕ
word_text (Plain text) = text.now
word_text (Name name) = escape_of name.now
word_text (Number n) = decimal n

-- these words, each with a space before it
abbrev pub spaced_words : List Word → List ℕ
spaced_words ws = flat_map (λ w. 32 ∷ word_text w) ws

-- a line of a first word, these others and a branch's tally
abbrev pub tally_line : List ℕ → List (List ℕ) → ℕ × BranchCounts → List ℕ
tally_line first front b = words first (front ++ branch_tally b)
