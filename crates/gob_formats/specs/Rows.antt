-- The rows of records.
use Rattle.std.specs.Prelude.{ℕ, if◌then◌else◌, List, []}
use Rattle.csv.specs.Machine.{is_end, fields_after, field_after}
use Rattle.csv.specs.declared.parser.State.{State}
use Rattle.csv.specs.declared.parser.Action.{Action}
use Rattle.gob_convert.specs.Made.{Made, concatenation, made_each}
use Rattle.gob_plan.specs.declared.rows.Column.{Column}
use Rattle.gob_plan.specs.declared.rows.Row.{Row}
use Rattle.gob_meaning.specs.Formats.{row_of, field_values}
use Rattle.gob_formats.specs.Splits.{records_on}

-- the rows of the records of a text from a state on, with the fields and the bytes of the field at hand
abbrev pub rows_on : List Column → State → List (List ℕ) → List ℕ → List ℕ → Made Row
rows_on columns s fields field text =
    made_each (λ fs. row_of (field_values columns fs)) (records_on s fields field text)

-- the same, where a byte is taken by an action that leads to this state, and the text goes on
abbrev pub rows_after : List Column → State → Action → List (List ℕ) → List ℕ → ℕ → List ℕ → Made Row
rows_after columns s a fields field b rest =
    if is_end a
    then concatenation (row_of (field_values columns (fields_after a fields field))) (rows_on columns s [] [] rest)
    else rows_on columns s (fields_after a fields field) (field_after a b field) rest
