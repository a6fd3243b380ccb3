-- What steps make of columns and of rows, as tables.
use Rattle.std.specs.Prelude.{◌≡◌, ℕ, List, [], ◌∷◌, ◌++◌, map, codes}
use Rattle.std.specs.declared.option.Option.{Option}
use Rattle.std.specs.declared.option.Option.TheVariants.{None, Some}
use Rattle.std.specs.declared.result.Result.{Result}
use Rattle.std.specs.declared.result.Result.TheVariants.{Ok, Err}
use Rattle.std.specs.List.{range_with_len}
use Rattle.gob_convert.specs.Made.{Made}
use Rattle.gob_plan.specs.declared.rows.Kind.TheVariants as kind
use Rattle.gob_plan.specs.declared.rows.Value.{Value}
use Rattle.gob_plan.specs.declared.rows.Value.TheVariants as value
use Rattle.gob_plan.specs.declared.rows.Column.{Column}
use Rattle.gob_plan.specs.declared.rows.Row.{Row}
use Rattle.gob_plan.specs.declared.checks.How.TheVariants as how
use Rattle.gob_plan.specs.declared.checks.Check.TheVariants as check
use Rattle.gob_plan.specs.declared.steps.StepSpec.{StepSpec}
use Rattle.gob_plan.specs.declared.steps.StepSpec.TheVariants as step
use Rattle.gob_plan.specs.declared.steps.Refusal.{Refusal}
use Rattle.gob_plan.specs.declared.steps.Refusal.TheVariants.{NoColumn, BadKind, BadValue}
use Rattle.gob_meaning.specs.Steps.{columns_after, step_rows, pieces_of, first_refused, columns_through, chain_rows}
use Rattle.gob_meaning.specs.Samples.{text, int, yes, row, text_column, int_column, column, id_name, test, equals}

-- ---- columns

-- columns with the names of so many bytes
abbrev pub many : ℕ → List Column
many n = map (λ i. record { name = i ∷ []; kind = kind.Int }) (range_with_len 0 n)

-- a step on columns, and the columns after it or why it is refused
abbrev columns_table : List (StepSpec × List Column × Result (List Column) Refusal)
columns_table =
    -- keep: in its own order; a missing column goes before one that stands twice
    (step.Keep (codes "name" ∷ codes "id" ∷ []), id_name, Ok (text_column "name" ∷ int_column "id" ∷ []))
    ∷ (step.Keep (codes "id" ∷ []), id_name, Ok (int_column "id" ∷ []))
    ∷ (step.Keep [], id_name, Err BadValue)
    ∷ (step.Keep (codes "id" ∷ codes "id" ∷ []), id_name, Err BadValue)
    ∷ (step.Keep (codes "id" ∷ codes "zz" ∷ codes "id" ∷ []), id_name, Err (NoColumn (codes "zz")))
    ∷ (step.Keep (codes "yy" ∷ codes "zz" ∷ []), id_name, Err (NoColumn (codes "yy")))
    -- drop: the others, and one must be left
    ∷ (step.Drop (codes "id" ∷ []), id_name, Ok (text_column "name" ∷ []))
    ∷ (step.Drop (codes "name" ∷ []), id_name, Ok (int_column "id" ∷ []))
    ∷ (step.Drop [], id_name, Err BadValue)
    ∷ (step.Drop (codes "id" ∷ codes "id" ∷ []), id_name, Err BadValue)
    ∷ (step.Drop (codes "id" ∷ codes "name" ∷ []), id_name, Err BadValue)
    ∷ (step.Drop (codes "id" ∷ codes "name" ∷ codes "zz" ∷ []), id_name, Err (NoColumn (codes "zz")))
    -- rename: where it stands, to a name that isn't there
    ∷ (step.Rename (codes "id") (codes "no"), id_name, Ok (int_column "no" ∷ text_column "name" ∷ []))
    ∷ (step.Rename (codes "id") (codes "name"), id_name, Err BadValue)
    ∷ (step.Rename (codes "id") (codes "id"), id_name, Err BadValue)
    ∷ (step.Rename (codes "zz") (codes "name"), id_name, Err (NoColumn (codes "zz")))
    -- cast: any kind to any kind
    ∷ (step.Cast (codes "name") kind.Int, id_name, Ok (int_column "id" ∷ int_column "name" ∷ []))
    ∷ (step.Cast (codes "id") kind.Bool, id_name, Ok (column "id" kind.Bool ∷ text_column "name" ∷ []))
    ∷ (step.Cast (codes "zz") kind.Int, id_name, Err (NoColumn (codes "zz")))
    -- set: where it stands, else at the end; up to 64 columns
    ∷ (step.Set (codes "id") kind.Bool yes, id_name, Ok (column "id" kind.Bool ∷ text_column "name" ∷ []))
    ∷ (step.Set (codes "b") kind.Bool yes, id_name, Ok (id_name ++ column "b" kind.Bool ∷ []))
    ∷ (step.Set (codes "id") kind.Int (text "7"), id_name, Err BadValue)
    ∷ (step.Set (codes "b") kind.Int (text "7"), id_name, Err BadValue)
    ∷ (step.Set (codes "b") kind.Int value.Null, id_name, Err BadValue)
    ∷ (step.Set (codes "b") kind.Int (int 1), many 63, Ok (many 63 ++ int_column "b" ∷ []))
    ∷ (step.Set (codes "b") kind.Int (int 1), many 64, Err BadValue)
    ∷ (step.Set (5 ∷ []) kind.Int (int 1), many 64, Ok (many 64))
    -- copy: at the end, to a name that isn't there; up to 64 columns
    ∷ (step.Copy (codes "id") (codes "no"), id_name, Ok (id_name ++ int_column "no" ∷ []))
    ∷ (step.Copy (codes "name") (codes "no"), id_name, Ok (id_name ++ text_column "no" ∷ []))
    ∷ (step.Copy (codes "id") (codes "name"), id_name, Err BadValue)
    ∷ (step.Copy (codes "zz") (codes "name"), id_name, Err (NoColumn (codes "zz")))
    ∷ (step.Copy (5 ∷ []) (codes "b"), many 63, Ok (many 63 ++ int_column "b" ∷ []))
    ∷ (step.Copy (5 ∷ []) (codes "b"), many 64, Err BadValue)
    -- explode: a text at a separator; a missing column goes before a wrong kind, and that before an empty separator
    ∷ (step.Explode (codes "name") (codes "|"), id_name, Ok id_name)
    ∷ (step.Explode (codes "name") [], id_name, Err BadValue)
    ∷ (step.Explode (codes "id") [], id_name, Err (BadKind (codes "id")))
    ∷ (step.Explode (codes "zz") [], id_name, Err (NoColumn (codes "zz")))
    -- where: the test's column, its kind, its value
    ∷ (step.Where (test "id" (equals (int 7))), id_name, Ok id_name)
    ∷ (step.Where (test "id" (equals (text "7"))), id_name, Err BadValue)
    ∷ (step.Where (test "id" (check.Like (codes "7"))), id_name, Err (BadKind (codes "id")))
    ∷ (step.Where (test "b" (check.Compare how.Lt yes)), column "b" kind.Bool ∷ [], Err (BadKind (codes "b")))
    ∷ (step.Where (test "name" (check.Bytes 5 1)), id_name, Err BadValue)
    ∷ (step.Where (test "id" (check.Bytes 5 1)), id_name, Err (BadKind (codes "id")))
    ∷ (step.Where (test "zz" (check.Bytes 5 1)), id_name, Err (NoColumn (codes "zz")))
    -- upper and lower: a text
    ∷ (step.Upper (codes "name"), id_name, Ok id_name)
    ∷ (step.Upper (codes "id"), id_name, Err (BadKind (codes "id")))
    ∷ (step.Upper (codes "zz"), id_name, Err (NoColumn (codes "zz")))
    ∷ (step.Lower (codes "name"), id_name, Ok id_name)
    ∷ (step.Lower (codes "id"), id_name, Err (BadKind (codes "id")))
    ∷ (step.Lower (codes "zz"), id_name, Err (NoColumn (codes "zz")))
    ∷ []

-- the columns after each step are these
abbrev pub ColumnsTable : Type 0
ColumnsTable = map (λ r. columns_after r.0 r.1) columns_table ≡ map (λ r. r.2) columns_table

-- ---- rows

-- rows of these values
abbrev rows : List (List Value) → Made Row
rows values = Some (map row values)

-- a step on a row of an integer and a text, and the rows that it makes
abbrev rows_table : List (StepSpec × List Value × Made Row)
rows_table =
    (step.Keep (codes "name" ∷ codes "id" ∷ []), int 7 ∷ text "x" ∷ [], rows ((text "x" ∷ int 7 ∷ []) ∷ []))
    ∷ (step.Drop (codes "id" ∷ []), int 7 ∷ text "x" ∷ [], rows ((text "x" ∷ []) ∷ []))
    ∷ (step.Drop (codes "name" ∷ []), int 7 ∷ text "x" ∷ [], rows ((int 7 ∷ []) ∷ []))
    ∷ (step.Rename (codes "id") (codes "no"), int 7 ∷ text "x" ∷ [], rows ((int 7 ∷ text "x" ∷ []) ∷ []))
    ∷ (step.Cast (codes "id") kind.Text, int 7 ∷ text "x" ∷ [], rows ((text "7" ∷ text "x" ∷ []) ∷ []))
    ∷ (step.Cast (codes "name") kind.Int, int 7 ∷ text "8" ∷ [], rows ((int 7 ∷ int 8 ∷ []) ∷ []))
    ∷ (step.Cast (codes "name") kind.Int, int 7 ∷ text "x" ∷ [], None)
    ∷ (step.Cast (codes "name") kind.Int, int 7 ∷ value.Null ∷ [], rows ((int 7 ∷ value.Null ∷ []) ∷ []))
    ∷ (step.Set (codes "id") kind.Bool yes, int 7 ∷ text "x" ∷ [], rows ((yes ∷ text "x" ∷ []) ∷ []))
    ∷ (step.Set (codes "name") kind.Bool yes, int 7 ∷ value.Null ∷ [], rows ((int 7 ∷ yes ∷ []) ∷ []))
    ∷ (step.Set (codes "b") kind.Bool yes, int 7 ∷ text "x" ∷ [], rows ((int 7 ∷ text "x" ∷ yes ∷ []) ∷ []))
    ∷ (step.Copy (codes "id") (codes "no"), int 7 ∷ text "x" ∷ [], rows ((int 7 ∷ text "x" ∷ int 7 ∷ []) ∷ []))
    ∷ (
      step.Copy (codes "name") (codes "no"),
      int 7 ∷ value.Null ∷ [],
      rows ((int 7 ∷ value.Null ∷ value.Null ∷ []) ∷ []),
    )
    ∷ (
      step.Explode (codes "name") (codes "|"),
      int 7 ∷ text "a||b" ∷ [],
      rows ((int 7 ∷ text "a" ∷ []) ∷ (int 7 ∷ text "" ∷ []) ∷ (int 7 ∷ text "b" ∷ []) ∷ []),
    )
    ∷ (step.Explode (codes "name") (codes "|"), int 7 ∷ text "" ∷ [], rows ((int 7 ∷ text "" ∷ []) ∷ []))
    ∷ (step.Explode (codes "name") (codes "|"), int 7 ∷ value.Null ∷ [], rows [])
    ∷ (step.Where (test "id" (equals (int 7))), int 7 ∷ text "x" ∷ [], rows ((int 7 ∷ text "x" ∷ []) ∷ []))
    ∷ (step.Where (test "id" (equals (int 8))), int 7 ∷ text "x" ∷ [], rows [])
    ∷ (step.Upper (codes "name"), int 7 ∷ text "aZ1" ∷ [], rows ((int 7 ∷ text "AZ1" ∷ []) ∷ []))
    ∷ (
      step.Upper (codes "name"),
      int 7 ∷ value.Text (195 ∷ 169 ∷ []) ∷ [],
      rows ((int 7 ∷ value.Text (195 ∷ 169 ∷ []) ∷ []) ∷ []),
    )
    ∷ (step.Upper (codes "name"), int 7 ∷ value.Null ∷ [], rows ((int 7 ∷ value.Null ∷ []) ∷ []))
    ∷ (step.Lower (codes "name"), int 7 ∷ text "aZ1" ∷ [], rows ((int 7 ∷ text "az1" ∷ []) ∷ []))
    ∷ (step.Lower (codes "name"), int 7 ∷ value.Null ∷ [], rows ((int 7 ∷ value.Null ∷ []) ∷ []))
    ∷ []

-- each step makes these rows
abbrev pub RowsTable : Type 0
RowsTable = map (λ r. step_rows r.0 id_name (row r.1)) rows_table ≡ map (λ r. r.2) rows_table

-- a separator, a text, and its pieces
abbrev pieces_table : List (List ℕ × List ℕ × List (List ℕ))
pieces_table =
    (codes "|", codes "a|b||", codes "a" ∷ codes "b" ∷ codes "" ∷ codes "" ∷ [])
    ∷ (codes "|", codes "", codes "" ∷ [])
    ∷ (codes "|", codes "abc", codes "abc" ∷ [])
    ∷ (codes "aa", codes "xaaay", codes "x" ∷ codes "ay" ∷ [])
    ∷ (codes "aa", codes "aaaa", codes "" ∷ codes "" ∷ codes "" ∷ [])
    ∷ (codes "ab", codes "aabab", codes "a" ∷ codes "" ∷ codes "" ∷ [])
    ∷ []

-- each text is cut so
abbrev pub PiecesTable : Type 0
PiecesTable = map (λ r. pieces_of r.0 r.1) pieces_table ≡ map (λ r. r.2) pieces_table

-- ---- steps one after the other

-- a text of numbers becomes a row for each
abbrev numbers : List StepSpec
numbers = step.Explode (codes "name") (codes "|") ∷ step.Cast (codes "name") kind.Int ∷ []

-- steps on an integer and a text, and the first one that is refused, or the columns after all
abbrev steps_table : List (List StepSpec × Option (ℕ × Refusal) × List Column)
steps_table =
    ([], None, id_name)
    ∷ (numbers, None, int_column "id" ∷ int_column "name" ∷ [])
    ∷ (step.Rename (codes "id") (codes "no") ∷ step.Drop (codes "name" ∷ []) ∷ [], None, int_column "no" ∷ [])
    ∷ (step.Upper (codes "id") ∷ step.Upper (codes "zz") ∷ [], Some (0, BadKind (codes "id")), id_name)
    ∷ (
      step.Drop (codes "id" ∷ []) ∷ step.Cast (codes "id") kind.Text ∷ [],
      Some (1, NoColumn (codes "id")),
      text_column "name" ∷ [],
    )
    ∷ []

-- each list of steps is taken so
abbrev pub StepsTable : Type 0
StepsTable = (map (λ r. first_refused r.0 id_name) steps_table ≡ map (λ r. r.1) steps_table)
    × (map (λ r. columns_through r.0 id_name) steps_table ≡ map (λ r. r.2) steps_table)

-- steps, a text beside the integer 7, and the rows that they make
abbrev chain_table : List (List StepSpec × Value × Made Row)
chain_table =
    ([], text "x", rows ((int 7 ∷ text "x" ∷ []) ∷ []))
    ∷ (numbers, text "1|2", rows ((int 7 ∷ int 1 ∷ []) ∷ (int 7 ∷ int 2 ∷ []) ∷ []))
    ∷ (numbers, value.Null, rows [])
    -- where one row is Bad, all are
    ∷ (numbers, text "1|x", None)
    ∷ (step.Cast (codes "name") kind.Int ∷ step.Drop (codes "name" ∷ []) ∷ [], text "x", None)
    -- each step goes by the columns that the one before left
    ∷ (step.Drop (codes "id" ∷ []) ∷ step.Upper (codes "name") ∷ [], text "x", rows ((text "X" ∷ []) ∷ []))
    ∷ (step.Where (test "id" (equals (int 8))) ∷ step.Cast (codes "name") kind.Int ∷ [], text "x", rows [])
    ∷ []

-- each list of steps makes these rows
abbrev pub ChainTable : Type 0
ChainTable = map (λ r. chain_rows r.0 id_name (row (int 7 ∷ r.1 ∷ []))) chain_table ≡ map (λ r. r.2) chain_table
