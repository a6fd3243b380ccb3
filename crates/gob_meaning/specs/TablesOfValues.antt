-- Casts, lines read and records written, as tables.
use Rattle.std.specs.Prelude.{◌≡◌, ℕ, ◌-◌, ◌^◌, negsuc, List, [], ◌∷◌, ◌++◌, map, codes}
use Rattle.std.specs.declared.option.Option.{Option}
use Rattle.std.specs.declared.option.Option.TheVariants.{None, Some}
use Rattle.gob_convert.specs.Made.{Made}
use Rattle.gob_plan.specs.declared.rows.Kind.{Kind}
use Rattle.gob_plan.specs.declared.rows.Kind.TheVariants as kind
use Rattle.gob_plan.specs.declared.rows.Value.{Value}
use Rattle.gob_plan.specs.declared.rows.Value.TheVariants as value
use Rattle.gob_plan.specs.declared.rows.Column.{Column}
use Rattle.gob_plan.specs.declared.rows.Row.{Row}
use Rattle.gob_plan.specs.declared.plan.Format.{Format}
use Rattle.gob_plan.specs.declared.plan.Format.TheVariants as format
use Rattle.gob_meaning.specs.Values.{cast}
use Rattle.gob_meaning.specs.Formats.{line_rows, record_of}
use Rattle.gob_meaning.specs.Samples.{text, int, minus, yes, no, row, text_column, int_column, column, id_name}

-- ---- casts

-- a kind, a value, and what the value becomes
abbrev cast_table : List (Kind × Value × Option Value)
cast_table =
    (kind.Bool, value.Null, Some value.Null)
    ∷ (kind.Bool, yes, Some yes)
    ∷ (kind.Bool, no, Some no)
    ∷ (kind.Bool, minus 1, None)
    ∷ (kind.Bool, int 0, Some no)
    ∷ (kind.Bool, int 1, Some yes)
    ∷ (kind.Bool, int 2, None)
    ∷ (kind.Bool, text "true", Some yes)
    ∷ (kind.Bool, text "false", Some no)
    ∷ (kind.Bool, text "True", None)
    ∷ (kind.Bool, text "1", None)
    ∷ (kind.Bool, text "", None)
    ∷ (kind.Int, value.Null, Some value.Null)
    ∷ (kind.Int, yes, Some (int 1))
    ∷ (kind.Int, no, Some (int 0))
    ∷ (kind.Int, minus 5, Some (minus 5))
    ∷ (kind.Int, text "7", Some (int 7))
    ∷ (kind.Int, text "-007", Some (minus 7))
    ∷ (kind.Int, text "-0", Some (int 0))
    ∷ (kind.Int, text "9223372036854775807", Some (int (2 ^ 63 - 1)))
    ∷ (kind.Int, text "9223372036854775808", None)
    ∷ (kind.Int, text "-9223372036854775808", Some (value.Int (negsuc (2 ^ 63 - 1))))
    ∷ (kind.Int, text "-9223372036854775809", None)
    ∷ (kind.Int, text "+7", None)
    ∷ (kind.Int, text " 7", None)
    ∷ (kind.Int, text "-", None)
    ∷ (kind.Int, text "", None)
    ∷ (kind.Int, text "true", None)
    ∷ (kind.Text, value.Null, Some value.Null)
    ∷ (kind.Text, yes, Some (text "true"))
    ∷ (kind.Text, no, Some (text "false"))
    ∷ (kind.Text, minus 12, Some (text "-12"))
    ∷ (kind.Text, int 0, Some (text "0"))
    ∷ (kind.Text, text "x", Some (text "x"))
    ∷ []

-- each value becomes so
abbrev pub CastTable : Type 0
CastTable = map (λ r. cast r.0 r.1) cast_table ≡ map (λ r. r.2) cast_table

-- ---- lines read

-- one row of these values
abbrev one : List Value → Made Row
one values = Some (row values ∷ [])

-- one integer column
abbrev number : List Column
number = int_column "n" ∷ []

-- one column of truth values
abbrev truth : List Column
truth = column "b" kind.Bool ∷ []

-- one text column
abbrev word : List Column
word = text_column "w" ∷ []

-- a format, its columns, a line without its end, and the rows that it is
abbrev read_table : List (Format × List Column × List ℕ × Made Row)
read_table =
    -- whole lines: any UTF-8
    (format.Lines, word, codes "a,b \r", one (text "a,b \r" ∷ []))
    ∷ (format.Lines, word, [], one (text "" ∷ []))
    ∷ (format.Lines, word, 255 ∷ [], None)
    -- csv: a field for each column
    ∷ (format.Csv, id_name, codes "7,\"a,\"\"b\"", one (int 7 ∷ text "a,\"b" ∷ []))
    ∷ (format.Csv, id_name, codes "-007,x", one (minus 7 ∷ text "x" ∷ []))
    ∷ (format.Csv, id_name, codes "7", None)
    ∷ (format.Csv, id_name, codes "7,a,b", None)
    ∷ (format.Csv, id_name, codes "x,a", None)
    ∷ (format.Csv, id_name, codes "7," ++ 255 ∷ [], None)
    -- an empty field is Null but for text
    ∷ (format.Csv, id_name, codes ",", one (value.Null ∷ text "" ∷ []))
    ∷ (format.Csv, truth, codes "\"\"", one (value.Null ∷ []))
    ∷ (format.Csv, truth, codes "true", one (yes ∷ []))
    ∷ (format.Csv, truth, codes "false", one (no ∷ []))
    ∷ (format.Csv, truth, codes "1", None)
    -- an empty line is no record; a lone carriage return ends one, and all of them must be right
    ∷ (format.Csv, id_name, [], Some [])
    ∷ (format.Csv, number, codes "1\r2", Some (row (int 1 ∷ []) ∷ row (int 2 ∷ []) ∷ []))
    ∷ (format.Csv, number, codes "1\rx", None)
    -- a byte order mark at the front is passed over
    ∷ (format.Csv, number, 239 ∷ 187 ∷ 191 ∷ codes "1", one (int 1 ∷ []))
    -- json: one object, whose other members are passed over
    ∷ (format.Json, number, codes "{\"m\":[1,{}],\"n\":7,\"x\":0.5}", one (int 7 ∷ []))
    ∷ (format.Json, id_name, codes "{\"name\":\"\",\"id\":1}", one (int 1 ∷ text "" ∷ []))
    ∷ (format.Json, number, codes "{\"n\":-9223372036854775808}", one (value.Int (negsuc (2 ^ 63 - 1)) ∷ []))
    ∷ (format.Json, number, codes "{\"n\":9223372036854775807}", one (int (2 ^ 63 - 1) ∷ []))
    ∷ (format.Json, number, codes "{\"n\":9223372036854775808}", None)
    ∷ (format.Json, number, codes "{\"n\":1.0}", None)
    ∷ (format.Json, number, codes "{\"n\":-0}", None)
    ∷ (format.Json, number, codes "{\"n\":\"2\"}", None)
    ∷ (format.Json, number, codes "{\"n\":true}", None)
    ∷ (format.Json, number, codes "{\"n\":[]}", None)
    ∷ (format.Json, truth, codes "{\"b\":true}", one (yes ∷ []))
    ∷ (format.Json, truth, codes "{\"b\":false}", one (no ∷ []))
    ∷ (format.Json, truth, codes "{\"b\":1}", None)
    ∷ (format.Json, truth, codes "{\"b\":\"true\"}", None)
    ∷ (format.Json, word, codes "{\"w\":\"a\\n\"}", one (text "a\n" ∷ []))
    ∷ (format.Json, word, codes "{\"w\":1}", None)
    ∷ (format.Json, word, codes "{\"w\":{}}", None)
    -- null and an absent member are Null; the last of equal members counts
    ∷ (format.Json, number, codes "{\"n\":null}", one (value.Null ∷ []))
    ∷ (format.Json, truth, codes "{\"b\":null}", one (value.Null ∷ []))
    ∷ (format.Json, word, codes "{\"w\":null}", one (value.Null ∷ []))
    ∷ (format.Json, number, codes "{\"m\":1}", one (value.Null ∷ []))
    ∷ (format.Json, number, codes "{\"n\":\"x\",\"n\":2}", one (int 2 ∷ []))
    -- what is no object, or no JSON
    ∷ (format.Json, number, codes "[1]", None)
    ∷ (format.Json, number, codes "{\"n\":1}}", None)
    ∷ (format.Json, number, codes " ", None)
    ∷ (format.Json, word, codes "{\"w\":\"" ++ 255 ∷ codes "\"}", None)
    ∷ (format.Json, number, [], Some [])
    ∷ []

-- each line is read so
abbrev pub ReadTable : Type 0
ReadTable = map (λ r. line_rows r.0 r.1 r.2) read_table ≡ map (λ r. r.3) read_table

-- ---- records written

-- two columns that don't stand in byte order
abbrev two : List Column
two = text_column "b" ∷ column "a" kind.Bool ∷ []

-- a format, its columns, the values of a row, and the record that it is
abbrev write_table : List (Format × List Column × List Value × Option (List ℕ))
write_table =
    (format.Lines, word, text "a\r" ∷ [], Some (codes "a\r\n"))
    ∷ (format.Lines, word, text "" ∷ [], Some (codes "\n"))
    ∷ (format.Lines, word, text "a\nb" ∷ [], None)
    ∷ (format.Lines, word, value.Null ∷ [], None)
    ∷ (format.Lines, number, int 1 ∷ [], None)
    ∷ (format.Lines, id_name, text "a" ∷ text "b" ∷ [], None)
    ∷ (format.Csv, [], yes ∷ minus 5 ∷ value.Null ∷ text "a\"b" ∷ [], Some (codes "true,-5,,\"a\"\"b\"\n"))
    ∷ (format.Csv, [], no ∷ text "a\nb" ∷ text "" ∷ [], Some (codes "false,\"a\nb\",\n"))
    ∷ (format.Csv, word, text "" ∷ [], Some (codes "\"\"\n"))
    ∷ (format.Csv, number, value.Null ∷ [], Some (codes "\"\"\n"))
    ∷ (format.Json, two, value.Null ∷ no ∷ [], Some (codes "{\"a\":false,\"b\":null}\n"))
    ∷ (format.Json, id_name, minus 5 ∷ text "a\"\n" ∷ [], Some (codes "{\"id\":-5,\"name\":\"a\\\"\\n\"}\n"))
    ∷ (format.Json, truth, yes ∷ [], Some (codes "{\"b\":true}\n"))
    ∷ []

-- each row is written so
abbrev pub WriteTable : Type 0
WriteTable = map (λ r. record_of r.0 r.1 (row r.2)) write_table ≡ map (λ r. r.3) write_table
