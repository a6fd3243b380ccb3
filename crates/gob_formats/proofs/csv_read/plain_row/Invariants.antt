use Rattle.std.proofs.Common.{◌≡◌, [], Some, drop}
use Rattle.gob_convert.specs.Made.{concatenation}
use Rattle.gob_meaning.specs.Formats.{field_values}
use Rattle.gob_formats.specs.Splits.{comma_fields, fields_left}
use Rattle.gob_formats.proofs.csv_read.plain_row.Given as goal

abbrev pub invariant-loop-column : goal.invariant-loop-column
invariant-loop-column l =
    concatenation (Some l.values.items) (field_values (drop l.column-index l.columns) (fields_left l.left))
    ≡ field_values l.columns (comma_fields [] l.line)
