-- How a line is read as rows and how a row is written as a record, by format.
use Rattle.std.specs.Prelude.{ℕ, if◌then◌else◌, nat_eq, List, [], ◌∷◌, ◌++◌, map}
use Rattle.std.specs.declared.option.Option.{Option}
use Rattle.std.specs.declared.option.Option.TheVariants.{None, Some}
use Rattle.std.specs.Option.{option_map, option_and_then}
use Rattle.std.specs.List.{list_any}
use Rattle.std.specs.Str.{is_utf8}
use Rattle.gob_convert.specs.Made.{Made, made_each}
use Rattle.csv.specs.Reading.{default_config, strip_bom, records}
use Rattle.csv.specs.Writing.{default_writer, row_text}
use Rattle.serde_json.specs.Data as json
use Rattle.serde_json.specs.Read.{read}
use Rattle.serde_json.specs.Find.{as_i64, as_object, get_member, of_integer}
use Rattle.serde_json.specs.Written.{compact_text}
use Rattle.gob_plan.specs.declared.plan.Format.{Format}
use Rattle.gob_plan.specs.declared.plan.Format.TheVariants as format
use Rattle.gob_plan.specs.declared.rows.Kind.{Kind}
use Rattle.gob_plan.specs.declared.rows.Kind.TheVariants as kind
use Rattle.gob_plan.specs.declared.rows.Value.{Value}
use Rattle.gob_plan.specs.declared.rows.Value.TheVariants as value
use Rattle.gob_plan.specs.declared.rows.Column.{Column}
use Rattle.gob_plan.specs.declared.rows.Row.{Row}
use Rattle.gob_meaning.specs.Values.{value_read, value_text}

-- one row with these values, where they are there
abbrev pub row_of : Option (List Value) → Made Row
row_of values = option_map (λ vs. record { values = vs } ∷ []) values

-- a value before the others, where all are there
abbrev pub value_before : Option Value → Option (List Value) → Option (List Value)
value_before None vs = None
value_before (Some v) None = None
value_before (Some v) (Some vs) = Some (v ∷ vs)

-- ---- lines

-- the whole line is one text
abbrev pub text_line_rows : List ℕ → Made Row
text_line_rows line = row_of (if is_utf8 line then Some (value.Text line ∷ []) else None)

-- one text without a line feed, and a line feed
abbrev pub text_record : List Value → Option (List ℕ)
text_record (value.Text t ∷ []) = if list_any (λ b. nat_eq b 10) t then None else Some (t ++ 10 ∷ [])
text_record _ = None

-- ---- csv

-- a field of a column: an empty one is Null but for text
abbrev pub field_value : Kind → List ℕ → Option Value
field_value kind.Text field = Some (value.Text field)
field_value k [] = Some value.Null
field_value k (b ∷ bs) = value_read k (b ∷ bs)

-- the values of a record: as many fields as columns, each UTF-8 and of its column's kind
abbrev pub field_values : List Column → List (List ℕ) → Option (List Value)
field_values [] [] = Some []
field_values [] (f ∷ fs) = None
field_values (c ∷ cs) [] = None
field_values (c ∷ cs) (f ∷ fs) =
    value_before (if is_utf8 f then field_value c.kind f else None) (field_values cs fs)

-- the records that csv reads in the line, as an input of its own
abbrev pub csv_line_rows : List Column → List ℕ → Made Row
csv_line_rows columns line =
    made_each (λ fields. row_of (field_values columns fields)) (records default_config (strip_bom line))

-- the record that csv writes; Null is an empty field
abbrev pub csv_record : List Value → List ℕ
csv_record values = row_text default_writer (map value_text values)

-- ---- json

-- a member of an object as a value of a column's kind; null is Null
abbrev pub member_value : Kind → json.Data → Option Value
member_value k json.null = Some value.Null
member_value kind.Bool (json.boolean b) = Some (value.Bool b)
member_value kind.Int (json.number n) = option_map value.Int (as_i64 n)
member_value kind.Text (json.string s) = Some (value.Text s)
member_value _ _ = None

-- the same where the object may lack the member
abbrev pub member_or_null : Kind → Option json.Data → Option Value
member_or_null k None = Some value.Null
member_or_null k (Some d) = member_value k d

-- the values of the columns in an object
abbrev pub member_values : List Column → json.Members → Option (List Value)
member_values [] ms = Some []
member_values (c ∷ cs) ms = value_before (member_or_null c.kind (get_member c.name ms)) (member_values cs ms)

-- an empty line makes no row; else the line is one object, whose other members are passed over
abbrev pub json_line_rows : List Column → List ℕ → Made Row
json_line_rows columns [] = Some []
json_line_rows columns (b ∷ bs) =
    if is_utf8 (b ∷ bs)
    then row_of (option_and_then (member_values columns) (option_and_then as_object (read (b ∷ bs))))
    else None

-- a value as JSON
abbrev pub value_data : Value → json.Data
value_data value.Null = json.null
value_data (value.Bool b) = json.boolean b
value_data (value.Int n) = json.number (of_integer n)
value_data (value.Text t) = json.string t

-- the members of an object in byte order of names
abbrev pub members_of : List Column → List Value → json.Members
members_of [] vs = json.no_members
members_of (c ∷ cs) [] = json.no_members
members_of (c ∷ cs) (v ∷ vs) = json.put c.name (value_data v) (members_of cs vs)

-- the compact object, and a line feed
abbrev pub json_record : List Column → List Value → List ℕ
json_record columns values = compact_text (json.object (members_of columns values)) ++ 10 ∷ []

-- ---- all of them

-- the rows that a line is, or Bad
unfoldable pub line_rows : Format → List Column → List ℕ → Made Row
line_rows format.Lines columns line = text_line_rows line
line_rows format.Csv columns line = csv_line_rows columns line
line_rows format.Json columns line = json_line_rows columns line

-- the record that a row is, with its line feed, or Bad
unfoldable pub record_of : Format → List Column → Row → Option (List ℕ)
record_of format.Lines columns row = text_record row.values
record_of format.Csv columns row = Some (csv_record row.values)
record_of format.Json columns row = Some (json_record columns row.values)
