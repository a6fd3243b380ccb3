use Rattle.std.proofs.Common.{◌≡◌, Some, drop}
use Rattle.csv.specs.Records.{fields_of}
use Rattle.gob_convert.specs.Made.{concatenation}
use Rattle.gob_meaning.specs.Formats.{field_values}
use Rattle.gob_formats.proofs.csv_read.row_of.Given as goal

abbrev pub invariant-loop-i : goal.invariant-loop-i
invariant-loop-i l =
    concatenation (Some l.values.items) (field_values (drop l.i l.columns) (drop l.i (fields_of l.fields)))
    ≡ field_values l.columns (fields_of l.fields)
