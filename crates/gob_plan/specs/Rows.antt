-- When a row conforms to columns, and the value of a column in it.
use Rattle.std.specs.Prelude.{ℕ, Bool, true, false, cond, ◌&&◌, List, [], ◌∷◌}
use Rattle.std.specs.declared.option.Option.{Option}
use Rattle.std.specs.declared.option.Option.TheVariants.{None, Some}
use Rattle.std.specs.Str.{bytes_eq}
use Rattle.gob_plan.specs.declared.rows.Kind.{Kind}
use Rattle.gob_plan.specs.declared.rows.Kind.TheVariants as kind
use Rattle.gob_plan.specs.declared.rows.Value.{Value}
use Rattle.gob_plan.specs.declared.rows.Value.TheVariants as value
use Rattle.gob_plan.specs.declared.rows.Column.{Column}
use Rattle.gob_plan.specs.declared.rows.Row.{Row}

-- the kind of truth values
abbrev pub is_bool : Kind → Bool
is_bool kind.Bool = true
is_bool kind.Int = false
is_bool kind.Text = false

-- the kind of integers
abbrev pub is_int : Kind → Bool
is_int kind.Bool = false
is_int kind.Int = true
is_int kind.Text = false

-- the kind of texts
abbrev pub is_text : Kind → Bool
is_text kind.Bool = false
is_text kind.Int = false
is_text kind.Text = true

-- the value is Null
abbrev pub is_null : Value → Bool
is_null value.Null = true
is_null (value.Bool b) = false
is_null (value.Int n) = false
is_null (value.Text t) = false

-- the value is of the kind, and so isn't Null
abbrev pub is_of : Kind → Value → Bool
is_of k value.Null = false
is_of k (value.Bool b) = is_bool k
is_of k (value.Int n) = is_int k
is_of k (value.Text t) = is_text k

-- Null stands in a column of each kind
abbrev pub may_stand : Kind → Value → Bool
may_stand k v = cond (is_null v) true (is_of k v)

-- one value for each column, and each may stand in its column
abbrev pub values_conform : List Column → List Value → Bool
values_conform [] [] = true
values_conform [] (v ∷ vs) = false
values_conform (c ∷ cs) [] = false
values_conform (c ∷ cs) (v ∷ vs) = may_stand c.kind v && values_conform cs vs

-- the row conforms to the columns
unfoldable pub conforms : List Column → Row → Bool
conforms columns row = values_conform columns row.values

-- the kind of the column with this name
abbrev pub kind_of : List ℕ → List Column → Option Kind
kind_of name [] = None
kind_of name (c ∷ cs) = cond (bytes_eq c.name name) (Some c.kind) (kind_of name cs)

-- the value of the column with this name, Null where it isn't there
abbrev pub value_of : List ℕ → List Column → List Value → Value
value_of name [] values = value.Null
value_of name (c ∷ cs) [] = value.Null
value_of name (c ∷ cs) (v ∷ vs) = cond (bytes_eq c.name name) v (value_of name cs vs)
