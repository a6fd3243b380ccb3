-- What makes a list of columns proper, and where a name stands in it.
use Rattle.std.specs.Prelude.{ℕ, Bool, true, ◌&&◌, not, nat_le, Option, List, [], ◌∷◌, length, position}
use Rattle.std.specs.List.{list_any}
use Rattle.std.specs.Str.{bytes_eq}
use Rattle.gob_plan.specs.declared.rows.Column.{Column}

-- a column of the list has this name
abbrev pub is_there : List ℕ → List Column → Bool
is_there name columns = list_any (λ c. bytes_eq c.name name) columns

-- no name stands twice
abbrev pub distinct : List Column → Bool
distinct [] = true
distinct (c ∷ cs) = not (is_there c.name cs) && distinct cs

-- the most columns of a list
abbrev pub max_columns : ℕ
max_columns = 64

-- one column or more, not too many, with different names
unfoldable pub is_columns : List Column → Bool
is_columns columns = nat_le 1 (length columns) && (nat_le (length columns) max_columns && distinct columns)

-- the place of the first column with this name
abbrev pub position_of : List ℕ → List Column → Option ℕ
position_of name columns = position (λ c. bytes_eq c.name name) columns
