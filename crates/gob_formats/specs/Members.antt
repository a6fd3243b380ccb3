-- The members of a record of json, with texts that are made once.
use Rattle.std.specs.Prelude.{ℕ, ◌+◌, Bool, true, List, [], ◌∷◌, ◌++◌, slice_index_or}
use Rattle.std.specs.Ordering.{nat_cmp, match_ordering}
use Rattle.std.specs.Cmp.Lexicographic.{slice_cmp}
use Rattle.json.specs.Print.{quoted}
use Rattle.serde_json.specs.Data as json
use Rattle.serde_json.specs.Written.{comma_if, compact_text}
use Rattle.gob_plan.specs.declared.rows.Value.{Value}
use Rattle.gob_plan.specs.declared.rows.Value.TheVariants as value
use Rattle.gob_plan.specs.declared.rows.Column.{Column}
use Rattle.gob_meaning.specs.Formats.{value_data}
use Rattle.gob_formats.specs.declared.json_write.Place.{Place}
use Rattle.gob_formats.specs.declared.json_write.Member.{Member}

-- a name, and which column has it
pub record Named : Type 0 where
  pub name : List ℕ
  pub index : ℕ

-- a place as it was found
abbrev pub named_place : Place → Named
named_place p = record { name = p.name.now; index = p.index }

-- the columns in byte order of names, with one more; a name that is there gets the new column
abbrev pub put_name : List ℕ → ℕ → List Named → List Named
put_name name index [] = record { name = name; index = index } ∷ []
put_name name index (n ∷ ns) =
    match_ordering (slice_cmp nat_cmp name n.name) (record { name = name; index = index } ∷ n ∷ ns)
    (record { name = n.name; index = index } ∷ ns) (n ∷ put_name name index ns)

-- the columns from this number on, in byte order of names
abbrev pub names_from : ℕ → List Column → List Named
names_from first [] = []
names_from first (c ∷ cs) = put_name c.name first (names_from (first + 1) cs)

-- what stands before the value of a member
abbrev pub key_text : Bool → List ℕ → List ℕ
key_text later name = comma_if later ++ (quoted name ++ 58 ∷ [])

-- the members with their texts
abbrev pub keyed_members : Bool → List Named → List Member
keyed_members later [] = []
keyed_members later (n ∷ ns) = record { key = key_text later n.name; index = n.index } ∷ keyed_members true ns

-- the value of a column
abbrev pub column_value : ℕ → List Value → Value
column_value index values = slice_index_or values index value.Null

-- the members of an object of these values
abbrev pub members_at : List Named → List Value → json.Members
members_at [] values = json.no_members
members_at (n ∷ ns) values = json.member n.name (value_data (column_value n.index values)) (members_at ns values)

-- the texts of members and their values, and the end of the record
abbrev pub members_written : List Member → List Value → List ℕ
members_written [] values = 125 ∷ 10 ∷ []
members_written (m ∷ ms) values =
    m.key ++ (compact_text (value_data (column_value m.index values)) ++ members_written ms values)
