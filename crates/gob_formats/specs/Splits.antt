-- How the code goes over a line of csv.
use Rattle.std.specs.Prelude.{ℕ, ◌==◌, ◌||◌, ◌&&◌, Bool, false, not, if◌then◌else◌, List, [], ◌∷◌, ◌++◌}
use Rattle.std.specs.declared.option.Option.{Option}
use Rattle.std.specs.declared.option.Option.TheVariants.{None, Some}
use Rattle.std.specs.Borrow.{Bor}
use Rattle.std.specs.List.{list_any}
use Rattle.csv.specs.Machine as csv
use Rattle.csv.specs.Reading.{default_config}
use Rattle.csv.specs.declared.parser.State.{State}
use Rattle.csv.specs.declared.parser.State.TheVariants as st
use Rattle.csv.specs.declared.parser.Action.{Action}
use Rattle.csv.specs.declared.parser.Action.TheVariants as act
use Rattle.gob_formats.specs.declared.csv_read.State.{State as Here}
use Rattle.gob_formats.specs.declared.csv_read.State.TheVariants as here
use Rattle.gob_formats.specs.declared.csv_read.Action.{Action as Done}
use Rattle.gob_formats.specs.declared.csv_read.Action.TheVariants as done

-- ---- plain lines

-- a quote, and the bytes that end a record
abbrev pub is_mark : ℕ → Bool
is_mark b = (b == 34) || (b == 13) || (b == 10)

-- a line without marks, that isn't empty and doesn't begin as a byte order mark does
abbrev pub is_plain_line : List ℕ → Bool
is_plain_line [] = false
is_plain_line (b ∷ bs) = not (b == 239) && not (list_any is_mark (b ∷ bs))

-- the fields of the text, where the first has begun
unfoldable pub comma_fields : List ℕ → List ℕ → List (List ℕ)
comma_fields field [] = field ∷ []
comma_fields field (b ∷ rest) =
    if b == 44 then field ∷ comma_fields [] rest else comma_fields (field ++ b ∷ []) rest

-- the fields of what is left of a line, if something is
abbrev pub fields_left : Option (Bor (List ℕ)) → List (List ℕ)
fields_left None = []
fields_left (Some text) = comma_fields [] text.now

-- ---- other lines

-- after a carriage return a record begins as it does anywhere: a line feed there is passed over too
abbrev pub settled_state : State → State
settled_state st.AfterCr = st.StartRecord
settled_state st.StartRecord = st.StartRecord
settled_state st.StartField = st.StartField
settled_state st.InField = st.InField
settled_state st.InQuoted = st.InQuoted
settled_state st.AfterQuote = st.AfterQuote
settled_state st.InEscape = st.InEscape
settled_state st.InComment = st.InComment

-- a step of csv's machine
abbrev pub step : State → ℕ → State × Action
step s b = (settled_state (csv.step default_config s b).0, (csv.step default_config s b).1)

-- the records of a text from a state on, with the fields and the bytes of the field at hand
unfoldable pub records_on : State → List (List ℕ) → List ℕ → List ℕ → List (List (List ℕ))
records_on s fields field [] = if csv.ends_at_end s then (fields ++ field ∷ []) ∷ [] else []
records_on s fields field (b ∷ rest) =
    if csv.is_end (step s b).1
    then csv.fields_after (step s b).1 fields field ∷ records_on (step s b).0 [] [] rest
    else records_on (step s b).0 (csv.fields_after (step s b).1 fields field)
    (csv.field_after (step s b).1 b field) rest

-- the state of the code
abbrev pub code_state : Here → State
code_state here.StartRecord = st.StartRecord
code_state here.StartField = st.StartField
code_state here.InField = st.InField
code_state here.InQuoted = st.InQuoted
code_state here.AfterQuote = st.AfterQuote

abbrev pub action_of : Done → Action
action_of done.Skip = act.Skip
action_of done.Copy = act.Copy
action_of done.EndField = act.EndField
action_of done.EndRecord = act.EndRecord

abbrev pub split_step : Here × Done → State × Action
split_step r = (code_state r.0, action_of r.1)
