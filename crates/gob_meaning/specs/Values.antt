-- Values as texts, and texts as values.
use Rattle.std.specs.Prelude.{ℕ, Bool, true, false, if◌then◌else◌, ◌==◌, ℤ, pos, negsuc, List, [], codes}
use Rattle.std.specs.declared.option.Option.{Option}
use Rattle.std.specs.declared.option.Option.TheVariants.{None, Some}
use Rattle.std.specs.Option.{option_map}
use Rattle.std.specs.Str.{bytes_eq}
use Rattle.std.specs.Fmt.{signed_decimal}
use Rattle.gob_bytes.specs.Numbers.{integer_read}
use Rattle.gob_plan.specs.declared.rows.Kind.{Kind}
use Rattle.gob_plan.specs.declared.rows.Kind.TheVariants as kind
use Rattle.gob_plan.specs.declared.rows.Value.{Value}
use Rattle.gob_plan.specs.declared.rows.Value.TheVariants as value

-- a truth value as a word
abbrev pub bool_text : Bool → List ℕ
bool_text true = codes "true"
bool_text false = codes "false"

-- a truth value is one of two words
abbrev pub bool_read : List ℕ → Option Bool
bool_read text =
    if bytes_eq text (codes "true") then Some true
    else (if bytes_eq text (codes "false") then Some false else None)

-- a value of this kind, read from a text
abbrev pub value_read : Kind → List ℕ → Option Value
value_read kind.Bool text = option_map value.Bool (bool_read text)
value_read kind.Int text = option_map value.Int (integer_read text)
value_read kind.Text text = Some (value.Text text)

-- the text of a value; Null has the empty one
abbrev pub value_text : Value → List ℕ
value_text value.Null = []
value_text (value.Bool b) = bool_text b
value_text (value.Int n) = signed_decimal n
value_text (value.Text t) = t

-- an integer as a truth value: 0 and 1 alone
abbrev pub bool_of_int : ℤ → Option Bool
bool_of_int (negsuc n) = None
bool_of_int (pos n) = if n == 0 then Some false else (if n == 1 then Some true else None)

-- a truth value as an integer
abbrev pub int_of_bool : Bool → ℤ
int_of_bool true = pos 1
int_of_bool false = pos 0

-- a value turned into this kind, where it can be; Null and what has the kind stay
abbrev pub cast : Kind → Value → Option Value
cast k value.Null = Some value.Null
cast kind.Bool (value.Bool b) = Some (value.Bool b)
cast kind.Bool (value.Int n) = option_map value.Bool (bool_of_int n)
cast kind.Bool (value.Text t) = value_read kind.Bool t
cast kind.Int (value.Bool b) = Some (value.Int (int_of_bool b))
cast kind.Int (value.Int n) = Some (value.Int n)
cast kind.Int (value.Text t) = value_read kind.Int t
cast kind.Text (value.Bool b) = Some (value.Text (value_text (value.Bool b)))
cast kind.Text (value.Int n) = Some (value.Text (value_text (value.Int n)))
cast kind.Text (value.Text t) = Some (value.Text t)
