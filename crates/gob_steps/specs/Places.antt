-- Columns by their places in a row.
use Rattle.std.specs.Prelude.{ℕ, Bool, true, false, not, ◌&&◌, nat_eq, nat_lt, List, [], ◌∷◌, map, get_or}
use Rattle.std.specs.Prelude.{slice_set as set, unwrap_or}
use Rattle.std.specs.List.{list_any, position_or_len}
use Rattle.std.specs.Str.{bytes_eq}
use Rattle.gob_plan.specs.declared.rows.Kind.TheVariants as kind
use Rattle.gob_plan.specs.declared.rows.Value.{Value}
use Rattle.gob_plan.specs.declared.rows.Value.TheVariants as value
use Rattle.gob_plan.specs.declared.rows.Column.{Column}
use Rattle.gob_plan.specs.declared.steps.StepSpec.{StepSpec}
use Rattle.gob_plan.specs.declared.steps.StepSpec.TheVariants as step
use Rattle.gob_plan.specs.declared.rows.Row.{Row}
use Rattle.gob_plan.specs.Rows.{kind_of}
use Rattle.gob_meaning.specs.Steps.{pieces_of}

-- the column with this name
abbrev pub column_of : List ℕ → List Column → Column
column_of name columns = record { name = name; kind = unwrap_or (kind_of name columns) kind.Text }

-- where the first column with this name stands, behind the last where none has it
abbrev pub column_place : List ℕ → List Column → ℕ
column_place name columns = position_or_len (λ c. bytes_eq c.name name) columns

-- the places of columns with the names of these
abbrev pub places_of : List Column → List Column → List ℕ
places_of kept columns = map (λ d. column_place d.name columns) kept

-- the values at these places
abbrev pub values_at : List ℕ → List Value → List Value
values_at ks values = map (λ k. get_or values k value.Null) ks

-- the name of the one column that a step reads or changes
abbrev pub name_of : StepSpec → List ℕ
name_of (step.Keep names) = []
name_of (step.Drop names) = []
name_of (step.Rename from to) = from
name_of (step.Cast name to) = name
name_of (step.Set name k v) = name
name_of (step.Copy from to) = from
name_of (step.Explode name separator) = name
name_of (step.Where test) = test.column
name_of (step.Upper name) = name
name_of (step.Lower name) = name

-- the columns behind a step that keeps some, and none for the others
abbrev pub kept_by : StepSpec → List Column → List Column
kept_by (step.Keep names) after = after
kept_by (step.Drop names) after = after
kept_by (step.Rename from to) after = []
kept_by (step.Cast name to) after = []
kept_by (step.Set name k v) after = []
kept_by (step.Copy from to) after = []
kept_by (step.Explode name separator) after = []
kept_by (step.Where test) after = []
kept_by (step.Upper name) after = []
kept_by (step.Lower name) after = []

-- the steps that change one value
abbrev pub changes_one : StepSpec → Bool
changes_one (step.Keep names) = false
changes_one (step.Drop names) = false
changes_one (step.Rename from to) = false
changes_one (step.Cast name to) = true
changes_one (step.Set name k v) = false
changes_one (step.Copy from to) = false
changes_one (step.Explode name separator) = false
changes_one (step.Where test) = false
changes_one (step.Upper name) = true
changes_one (step.Lower name) = true

-- the step that may make many rows of one
abbrev pub makes_many : StepSpec → Bool
makes_many (step.Keep names) = false
makes_many (step.Drop names) = false
makes_many (step.Rename from to) = false
makes_many (step.Cast name to) = false
makes_many (step.Set name k v) = false
makes_many (step.Copy from to) = false
makes_many (step.Explode name separator) = true
makes_many (step.Where test) = false
makes_many (step.Upper name) = false
makes_many (step.Lower name) = false

-- the row with this text at this place
abbrev pub row_with : ℕ → Row → List ℕ → Row
row_with place row text = record { values = set row.values place (value.Text text) }

-- a row for each piece of this value, where it is a text
abbrev pub rows_of_pieces : List ℕ → ℕ → Row → Value → List Row
rows_of_pieces separator place row value.Null = []
rows_of_pieces separator place row (value.Bool b) = []
rows_of_pieces separator place row (value.Int n) = []
rows_of_pieces separator place row (value.Text t) = map (row_with place row) (pieces_of separator t)

-- a place of so many
abbrev pub is_below : ℕ → ℕ → Bool
is_below count k = nat_lt k count

-- this place is one of these
abbrev pub is_place_among : ℕ → List ℕ → Bool
is_place_among k ks = list_any (λ j. nat_eq j k) ks

-- no place stands twice
abbrev pub are_apart : List ℕ → Bool
are_apart [] = true
are_apart (k ∷ ks) = not (is_place_among k ks) && are_apart ks
