-- What each conversion step makes of the columns and of a row.
use Rattle.std.specs.Prelude.{ℕ, zero, suc, ◌+◌, ◌-◌, Bool, true, false, if◌then◌else◌, not, ◌&&◌, ◌||◌, nat_le, List}
use Rattle.std.specs.Prelude.{[], ◌∷◌, ◌++◌, map, filter, length}
use Rattle.std.specs.declared.option.Option.{Option}
use Rattle.std.specs.declared.option.Option.TheVariants.{None, Some}
use Rattle.std.specs.declared.result.Result.{Result}
use Rattle.std.specs.declared.result.Result.TheVariants.{Ok, Err}
use Rattle.std.specs.Option.{option_map, unwrap_or}
use Rattle.std.specs.Result.{result_unwrap_or}
use Rattle.std.specs.List.{list_any, starts_with}
use Rattle.std.specs.Str.{bytes_eq, str_to_ascii_lowercase, str_to_ascii_uppercase}
use Rattle.std.specs.Prelude.{nat_eq}
use Rattle.gob_convert.specs.Made.{Made, then_each}
use Rattle.gob_plan.specs.declared.rows.Kind.{Kind}
use Rattle.gob_plan.specs.declared.rows.Kind.TheVariants as kind
use Rattle.gob_plan.specs.declared.rows.Value.{Value}
use Rattle.gob_plan.specs.declared.rows.Value.TheVariants as value
use Rattle.gob_plan.specs.declared.rows.Column.{Column}
use Rattle.gob_plan.specs.declared.rows.Row.{Row}
use Rattle.gob_plan.specs.declared.steps.StepSpec.{StepSpec}
use Rattle.gob_plan.specs.declared.steps.StepSpec.TheVariants as step
use Rattle.gob_plan.specs.declared.steps.Refusal.{Refusal}
use Rattle.gob_plan.specs.declared.steps.Refusal.TheVariants.{NoColumn, BadKind, BadValue}
use Rattle.gob_plan.specs.Columns.{is_there, max_columns}
use Rattle.gob_plan.specs.Rows.{is_of, is_text, kind_of, value_of}
use Rattle.gob_plan.specs.Tests.{check_takes, check_is_right, test_holds}
use Rattle.gob_meaning.specs.Values.{cast}

-- ---- names and columns

-- the name is one of these
abbrev pub is_among : List ℕ → List (List ℕ) → Bool
is_among name names = list_any (λ n. bytes_eq n name) names

-- a name stands twice
abbrev pub has_twice : List (List ℕ) → Bool
has_twice [] = false
has_twice (n ∷ ns) = is_among n ns || has_twice ns

-- the first of these names that no column has
abbrev pub first_missing : List (List ℕ) → List Column → Option (List ℕ)
first_missing [] columns = None
first_missing (n ∷ ns) columns = if is_there n columns then first_missing ns columns else Some n

-- the columns with these names, in their order
abbrev pub columns_named : List (List ℕ) → List Column → List Column
columns_named names columns =
    map (λ n. record { name = n; kind = unwrap_or (kind_of n columns) kind.Text }) names

-- the columns with other names
abbrev pub columns_but : List (List ℕ) → List Column → List Column
columns_but names columns = filter (λ c. not (is_among c.name names)) columns

-- the columns where this one is called otherwise
abbrev pub with_new_name : List ℕ → List ℕ → List Column → List Column
with_new_name from to columns = map renamed columns
  where
    renamed : Column → Column
    renamed c = if bytes_eq c.name from then record c { name = to } else c

-- the columns where this one has this kind
abbrev pub with_new_kind : List ℕ → Kind → List Column → List Column
with_new_kind name k columns = map retyped columns
  where
    retyped : Column → Column
    retyped c = if bytes_eq c.name name then record c { kind = k } else c

-- the columns with one more at the end
abbrev pub with_column : List ℕ → Kind → List Column → List Column
with_column name k columns = columns ++ record { name = name; kind = k } ∷ []

-- a column more would be too many
abbrev pub is_full : List Column → Bool
is_full columns = nat_le max_columns (length columns)

-- ---- the columns after a step, or why it is refused

-- the names must be there, and then nothing else may be wrong
abbrev pub unless_missing : Option (List ℕ) → Bool → List Column → Result (List Column) Refusal
unless_missing (Some n) wrong after = Err (NoColumn n)
unless_missing None wrong after = if wrong then Err BadValue else Ok after

-- the column must be there and of a right kind, and then nothing else may be wrong
abbrev pub of_kind : List ℕ → (Kind → Bool) → (Kind → Bool) → (Kind → List Column) → Option Kind
    → Result (List Column) Refusal
of_kind name right wrong after None = Err (NoColumn name)
of_kind name right wrong after (Some k) =
    if right k then (if wrong k then Err BadValue else Ok (after k)) else Err (BadKind name)

-- of any kind
abbrev pub each_kind : Kind → Bool
each_kind k = true

-- no name, or one of them twice
abbrev pub are_bad_names : List (List ℕ) → Bool
are_bad_names names = nat_eq (length names) 0 || has_twice names

-- the columns with this one set: it changes where it stands, and else comes last
abbrev pub with_set_column : List ℕ → Kind → List Column → List Column
with_set_column name k columns =
    if is_there name columns then with_new_kind name k columns else with_column name k columns

-- one clause for each step; a missing column goes before a wrong kind, and that before all else
unfoldable pub columns_after : StepSpec → List Column → Result (List Column) Refusal
columns_after (step.Keep names) columns =
    unless_missing (first_missing names columns) (are_bad_names names) (columns_named names columns)
columns_after (step.Drop names) columns =
    unless_missing (first_missing names columns)
    (are_bad_names names || nat_eq (length (columns_but names columns)) 0) (columns_but names columns)
columns_after (step.Rename from to) columns =
    of_kind from each_kind (λ k. is_there to columns) (λ k. with_new_name from to columns) (kind_of from columns)
columns_after (step.Cast name to) columns =
    of_kind name each_kind (λ k. false) (λ k. with_new_kind name to columns) (kind_of name columns)
columns_after (step.Set name k v) columns =
    if is_of k v && (is_there name columns || not (is_full columns))
    then Ok (with_set_column name k columns) else Err BadValue
columns_after (step.Copy from to) columns =
    of_kind from each_kind (λ k. is_there to columns || is_full columns) (λ k. with_column to k columns)
    (kind_of from columns)
columns_after (step.Explode name separator) columns =
    of_kind name is_text (λ k. nat_eq (length separator) 0) (λ k. columns) (kind_of name columns)
columns_after (step.Where test) columns =
    of_kind test.column (check_takes test.check) (λ k. not (check_is_right test.check k)) (λ k. columns)
    (kind_of test.column columns)
columns_after (step.Upper name) columns = of_kind name is_text (λ k. false) (λ k. columns) (kind_of name columns)
columns_after (step.Lower name) columns = of_kind name is_text (λ k. false) (λ k. columns) (kind_of name columns)

-- ---- a row

-- the values of the columns with other names
abbrev pub other_values : List (List ℕ) → List Column → List Value → List Value
other_values names [] values = []
other_values names (c ∷ cs) [] = []
other_values names (c ∷ cs) (v ∷ vs) =
    if is_among c.name names then other_values names cs vs else v ∷ other_values names cs vs

-- the values with this one in the column with this name
abbrev pub with_value : List ℕ → Value → List Column → List Value → List Value
with_value name w [] values = values
with_value name w (c ∷ cs) [] = []
with_value name w (c ∷ cs) (v ∷ vs) = if bytes_eq c.name name then w ∷ vs else v ∷ with_value name w cs vs

-- the row with this value in the column with this name
abbrev pub row_with_value : List ℕ → Value → List Column → Row → Row
row_with_value name w columns row = record { values = with_value name w columns row.values }

-- one row with these values
abbrev pub one_row : List Value → Made Row
one_row values = Some (record { values = values } ∷ [])

-- the row with a new value in this column, or Bad
abbrev pub row_with_change : List ℕ → (Value → Option Value) → List Column → Row → Made Row
row_with_change name f columns row =
    option_map (λ w. row_with_value name w columns row ∷ []) (f (value_of name columns row.values))

-- a text changed, where the value is one
abbrev pub on_text : (List ℕ → List ℕ) → Value → Option Value
on_text f value.Null = Some value.Null
on_text f (value.Bool b) = Some (value.Bool b)
on_text f (value.Int n) = Some (value.Int n)
on_text f (value.Text t) = Some (value.Text (f t))

-- a byte before the pieces of what follows it: where a separator begins with it a piece ends, else it joins the first
abbrev pub piece_byte : Bool → ℕ → List (List ℕ) → List (List ℕ)
piece_byte true b pieces = [] ∷ pieces
piece_byte false b [] = (b ∷ []) ∷ []
piece_byte false b (p ∷ pieces) = (b ∷ p) ∷ pieces

-- the pieces of a text of which so many bytes belong to a separator that began before
abbrev pub pieces_after : List ℕ → ℕ → List ℕ → List (List ℕ)
pieces_after separator skip [] = [] ∷ []
pieces_after separator (suc skip) (b ∷ bs) = pieces_after separator skip bs
pieces_after separator zero (b ∷ bs) =
    let ends = starts_with nat_eq (b ∷ bs) separator in
    piece_byte ends b (pieces_after separator (if ends then length separator - 1 else 0) bs)

-- a text cut at a separator, from the left and without overlaps
abbrev pub pieces_of : List ℕ → List ℕ → List (List ℕ)
pieces_of separator text = pieces_after separator 0 text

-- a row for each piece of the text in this column; no row on Null
abbrev pub row_for_each_piece : List ℕ → List ℕ → List Column → Row → Value → Made Row
row_for_each_piece name separator columns row (value.Text t) =
    Some (map (λ piece. row_with_value name (value.Text piece) columns row) (pieces_of separator t))
row_for_each_piece name separator columns row _ = Some []

-- one clause for each step
unfoldable pub step_rows : StepSpec → List Column → Row → Made Row
step_rows (step.Keep names) columns row = one_row (map (λ n. value_of n columns row.values) names)
step_rows (step.Drop names) columns row = one_row (other_values names columns row.values)
step_rows (step.Rename from to) columns row = Some (row ∷ [])
step_rows (step.Cast name to) columns row = row_with_change name (cast to) columns row
step_rows (step.Set name k v) columns row =
    one_row (if is_there name columns then with_value name v columns row.values else row.values ++ v ∷ [])
step_rows (step.Copy from to) columns row = one_row (row.values ++ value_of from columns row.values ∷ [])
step_rows (step.Explode name separator) columns row =
    row_for_each_piece name separator columns row (value_of name columns row.values)
step_rows (step.Where test) columns row = Some (if test_holds test columns row then row ∷ [] else [])
step_rows (step.Upper name) columns row = row_with_change name (on_text str_to_ascii_uppercase) columns row
step_rows (step.Lower name) columns row = row_with_change name (on_text str_to_ascii_lowercase) columns row

-- ---- steps one after the other

-- the columns behind a step; a refused one leaves them
abbrev pub columns_behind : StepSpec → List Column → List Column
columns_behind s columns = result_unwrap_or (columns_after s columns) columns

-- the columns behind all steps
abbrev pub columns_through : List StepSpec → List Column → List Column
columns_through [] columns = columns
columns_through (s ∷ ss) columns = columns_through ss (columns_behind s columns)

-- the first step that is refused, by its index from this one on, and why
abbrev pub first_refused_from : ℕ → List StepSpec → List Column → Option (ℕ × Refusal)
first_refused_from i [] columns = None
first_refused_from i (s ∷ ss) columns =
    told (columns_after s columns) (first_refused_from (i + 1) ss (columns_behind s columns))
  where
    told : Result (List Column) Refusal → Option (ℕ × Refusal) → Option (ℕ × Refusal)
    told (Ok after) later = later
    told (Err why) later = Some (i, why)

-- the first of these steps that is refused
abbrev pub first_refused : List StepSpec → List Column → Option (ℕ × Refusal)
first_refused steps columns = first_refused_from 0 steps columns

-- the rows that a row becomes: each step goes over every row that the one before made
abbrev pub chain_rows : List StepSpec → List Column → Row → Made Row
chain_rows [] columns row = Some (row ∷ [])
chain_rows (s ∷ ss) columns row =
    then_each (chain_rows ss (columns_behind s columns)) (step_rows s columns row)
