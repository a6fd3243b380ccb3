-- A line of json as the code reads it: over the text's own tree, whose numbers are texts still.
use Rattle.std.specs.Prelude.{ℕ, ℤ, Bool, true, cond, ◌&&◌, List, is_some}
use Rattle.std.specs.declared.option.Option.{Option}
use Rattle.std.specs.declared.option.Option.TheVariants.{None, Some}
use Rattle.std.specs.Option.{option_map, option_and_then}
use Rattle.std.specs.Str.{is_utf8}
use Rattle.json.specs.Lex.{tokens}
use Rattle.json.specs.Json as json
use Rattle.json.specs.Find as find
use Rattle.serde_json.specs.Read.{of_json, number_of, max_depth, read}
use Rattle.serde_json.specs.Find.{as_i64, as_object}
use Rattle.gob_plan.specs.declared.rows.Kind.{Kind}
use Rattle.gob_plan.specs.declared.rows.Kind.TheVariants as kind
use Rattle.gob_plan.specs.declared.rows.Value.{Value}
use Rattle.gob_plan.specs.declared.rows.Value.TheVariants as value
use Rattle.gob_plan.specs.declared.rows.Column.{Column}
use Rattle.gob_meaning.specs.Formats.{member_values}

-- the tree of a text
abbrev pub tree_of : List ℕ → Option json.Json
tree_of text = option_and_then (λ p. json.if_last p.0 p.1) (json.value max_depth (tokens text))

-- no number is too large for a float
abbrev mutual
  pub finite : json.Json → Bool
  finite json.null = true
  finite (json.boolean b) = true
  finite (json.number s) = is_some (number_of s)
  finite (json.string s) = true
  finite (json.array js) = items_finite js
  finite (json.object ms) = members_finite ms

  pub items_finite : json.Items → Bool
  items_finite json.no_items = true
  items_finite (json.item j js) = finite j && items_finite js

  pub members_finite : json.Members → Bool
  members_finite json.no_members = true
  members_finite (json.member k j ms) = finite j && members_finite ms

-- a number as an integer
abbrev pub integer_of : List ℕ → Option ℤ
integer_of s = option_and_then as_i64 (number_of s)

-- a value that isn't null, as a column's kind
abbrev pub kind_found : Kind → json.Json → Option Value
kind_found kind.Bool j = option_map value.Bool (find.as_bool j)
kind_found kind.Int j = option_map value.Int (option_and_then integer_of (find.as_number j))
kind_found kind.Text j = option_map value.Text (find.as_str j)

-- null is Null
abbrev pub value_of_json : Kind → json.Json → Option Value
value_of_json k j = cond (find.is_null j) (Some value.Null) (kind_found k j)

-- and so is a member that isn't there
abbrev pub member_found : Kind → Option json.Json → Option Value
member_found k None = Some value.Null
member_found k (Some j) = value_of_json k j

-- the values of the columns in a tree, where it is an object
abbrev pub tree_values : List Column → json.Json → Option (List Value)
tree_values columns j = option_and_then (member_values columns) (option_and_then as_object (of_json j))

-- the values of the columns in a line that isn't empty
abbrev pub object_values : List Column → List ℕ → Option (List Value)
object_values columns line =
    cond (is_utf8 line) (option_and_then (member_values columns) (option_and_then as_object (read line))) None
