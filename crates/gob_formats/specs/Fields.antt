-- Texts and fields as the functions here see them.
use Rattle.std.specs.Prelude.{ℕ, if◌then◌else◌, nat_eq, List, [], ◌∷◌, ◌++◌, map}
use Rattle.std.specs.declared.option.Option.{Option}
use Rattle.std.specs.declared.option.Option.TheVariants.{None, Some}
use Rattle.std.specs.List.{list_any}
use Rattle.std.specs.Str.{is_utf8}
use Rattle.csv.specs.Writing.{default_writer, field_text, fields_text}
use Rattle.gob_plan.specs.declared.rows.Kind.{Kind}
use Rattle.gob_plan.specs.declared.rows.Value.{Value}
use Rattle.gob_meaning.specs.Formats.{field_value}
use Rattle.gob_meaning.specs.Values.{value_text}

-- a text as a line of its own: no line feed may stand in it
abbrev pub line_record : List ℕ → Option (List ℕ)
line_record text = if list_any (λ b. nat_eq b 10) text then None else Some (text ++ 10 ∷ [])

-- a field has to be UTF-8 and of the kind
abbrev pub field_read : Kind → List ℕ → Option Value
field_read k field = if is_utf8 field then field_value k field else None

-- a field as csv writes it
unfoldable pub field_written : List ℕ → List ℕ
field_written field = field_text default_writer field

-- the fields of these values, each with a comma before it
unfoldable pub more_fields : List Value → List ℕ
more_fields values = fields_text default_writer (map value_text values)

-- the fields of these values
abbrev pub record_body : List Value → List ℕ
record_body [] = []
record_body (v ∷ values) = field_written (value_text v) ++ more_fields values
