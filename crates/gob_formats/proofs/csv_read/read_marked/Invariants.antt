use Rattle.std.proofs.Common.{◌≡◌, [], Some, drop}
use Rattle.csv.specs.Records.{fields_of, partial_of}
use Rattle.csv.specs.declared.parser.State.TheVariants as st
use Rattle.gob_convert.specs.Made.{concatenation}
use Rattle.gob_formats.specs.Adding.{KeepsFront}
use Rattle.gob_formats.specs.Splits.{code_state}
use Rattle.gob_formats.specs.Rows.{rows_on}
use Rattle.gob_formats.proofs.csv_read.read_marked.Given as goal

abbrev pub invariant-loop-b : goal.invariant-loop-b
invariant-loop-b l =
    (concatenation (Some l.rows.items)
    (rows_on l.columns (code_state l.state) (fields_of l.draft.fields) l.draft.field.items (drop l.b-index l.text))
    ≡ concatenation (Some l.fn.rows.items) (rows_on l.columns st.StartRecord [] [] l.text))
    × (partial_of l.draft.fields ≡ [])
    × KeepsFront l.fn.rows.items l.rows.items
