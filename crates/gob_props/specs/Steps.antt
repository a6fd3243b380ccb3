-- What the reader of a properties text has at a place within it.
use Rattle.std.specs.Prelude.{ℕ, ◌+◌, Bool, true, false, cond, ◌&&◌, nat_eq, List, [], ◌∷◌, length}
use Rattle.std.specs.declared.option.Option.{Option}
use Rattle.std.specs.declared.option.Option.TheVariants.{None, Some}
use Rattle.std.specs.Prelude.{String, string_bytes}
use Rattle.std.specs.Global.{Global}
use Rattle.std.specs.Borrow.{Bor}
use Rattle.std.specs.declared.result.Result.{Result}
use Rattle.std.specs.declared.result.Result.TheVariants.{Ok, Err}
use Rattle.gob_props.specs.declared.fault.PropsFault.{PropsFault}
use Rattle.gob_props.specs.declared.fault.PropsFault.TheVariants.{BadEscape}
use Rattle.std.specs.Str.{chars}
use Rattle.gob_props.specs.Properties.{Logical, natural_lines, logical_from, Character, KeyValue, key_value_of}
use Rattle.gob_props.specs.Properties.{with_entry}

-- what follows the line end in front
abbrev pub behind_line_end : List ℕ → List ℕ
behind_line_end [] = []
behind_line_end (c ∷ []) = []
behind_line_end (c ∷ d ∷ cs) = cond (nat_eq c 13 && nat_eq d 10) cs (d ∷ cs)

-- the natural lines of what is left of a text, if anything is
abbrev pub lines_left : Option (Bor (List ℕ)) → List (List ℕ)
lines_left None = []
lines_left (Some text) = natural_lines (chars text.now)

-- a bound on their number
abbrev pub most_lines : Option (Bor (List ℕ)) → ℕ
most_lines None = 0
most_lines (Some text) = length text.now + 1

-- the logical lines from a line on that has begun, and goes on or not
abbrev pub later_lines : Bool → Logical → ℕ → List (List ℕ) → List Logical
later_lines true begun n lines = logical_from (Some begun) n lines
later_lines false begun n lines = begun ∷ logical_from None n lines

-- a character and what follows it, as the code has them
abbrev pub character_of : ℕ × Bor (List ℕ) → Character
character_of p = record { value = p.0; after = p.1.now }

-- the bytes of a key and a value
abbrev pub entry_from : String Global × String Global → KeyValue
entry_from p = (string_bytes p.0, string_bytes p.1)

-- the entries with that of a logical line, or the fault that its escapes have
abbrev pub put_entry : List KeyValue → ℕ → Option KeyValue → Result (List KeyValue) PropsFault
put_entry es number None = Err (BadEscape number)
put_entry es number (Some e) = Ok (with_entry es e)

abbrev pub read_line : List KeyValue → Logical → Result (List KeyValue) PropsFault
read_line es l = cond (nat_eq (length l.text) 0) (Ok es) (put_entry es l.number (key_value_of l.text))
