-- Tables worked out by hand: kinds, values in columns, what each check is for and says, patterns, rows and columns.
use Rattle.std.proofs.Common.{◌≡◌, ℕ, Bool, true, false, List, [], ◌∷◌, map, Some, None, refl, pos, negsuc, replicate}
use Rattle.std.specs.Prelude.{codes}
use Rattle.std.specs.List.{range_with_len}
use Rattle.std.specs.Str.{chars}
use Rattle.std.specs.declared.cmp.Ordering.TheVariants.{Less, Equal, Greater}
use Rattle.gob_plan.specs.declared.rows.Kind.{Kind}
use Rattle.gob_plan.specs.declared.rows.Kind.TheVariants as kind
use Rattle.gob_plan.specs.declared.rows.Value.{Value}
use Rattle.gob_plan.specs.declared.rows.Value.TheVariants as value
use Rattle.gob_plan.specs.declared.rows.Column.{Column}
use Rattle.gob_plan.specs.declared.rows.Row.{Row}
use Rattle.gob_plan.specs.declared.checks.How.TheVariants as how
use Rattle.gob_plan.specs.declared.checks.Check.{Check}
use Rattle.gob_plan.specs.declared.checks.Check.TheVariants as check
use Rattle.gob_plan.specs.declared.checks.TestSpec.{TestSpec}
use Rattle.gob_plan.specs.Columns.{is_columns, position_of}
use Rattle.gob_plan.specs.Rows.{is_bool, is_int, is_text, is_null, is_of, may_stand, conforms, kind_of, value_of}
use Rattle.gob_plan.specs.Tests.{value_order, order_is, like, length_within, check_holds, test_holds}
use Rattle.gob_plan.specs.Tests.{takes, check_takes, check_is_right, test_fits}

-- ---- kinds and values

-- of Bool, Int and Text, in this order
abbrev by_kind : (Kind → Bool) → List Bool
by_kind test = test kind.Bool ∷ test kind.Int ∷ test kind.Text ∷ []

pub kinds :
    (by_kind is_bool ≡ true ∷ false ∷ false ∷ [])
    × (by_kind is_int ≡ false ∷ true ∷ false ∷ [])
    × (by_kind is_text ≡ false ∷ false ∷ true ∷ [])
kinds = (refl, refl, refl)

pub values_of_kinds :
    (by_kind (λ k. is_of k value.Null) ≡ false ∷ false ∷ false ∷ [])
    × (by_kind (λ k. is_of k (value.Bool false)) ≡ true ∷ false ∷ false ∷ [])
    × (by_kind (λ k. is_of k (value.Int (pos 0))) ≡ false ∷ true ∷ false ∷ [])
    × (by_kind (λ k. is_of k (value.Text [])) ≡ false ∷ false ∷ true ∷ [])
    × (by_kind (λ k. may_stand k value.Null) ≡ true ∷ true ∷ true ∷ [])
    × (by_kind (λ k. may_stand k (value.Text [])) ≡ false ∷ false ∷ true ∷ [])
values_of_kinds = (refl, refl, refl, refl, refl, refl)

pub nulls :
    map is_null (value.Null ∷ value.Bool false ∷ value.Int (pos 0) ∷ value.Text [] ∷ []) ≡ true ∷ false ∷ false ∷ false
    ∷ []
nulls = refl

-- ---- rows and columns

abbrev column : List ℕ → Kind → Column
column name k = record { name = name; kind = k }

-- the columns n of integers and t of texts
abbrev two : List Column
two = column (codes "n") kind.Int ∷ column (codes "t") kind.Text ∷ []

abbrev row_of : List Value → Row
row_of values = record { values = values }

abbrev one : Value
one = value.Int (pos 1)

abbrev ab : Value
ab = value.Text (codes "ab")

pub rows_conform :
    map (λ values. conforms two (row_of values)) ((one ∷ ab ∷ []) ∷ (value.Null ∷ value.Null ∷ []) ∷ [])
    ≡ true ∷ true ∷ []
unfolding conforms
rows_conform = refl

pub rows_apart :
    map (λ values. conforms two (row_of values))
    ([] ∷ (one ∷ []) ∷ (one ∷ ab ∷ ab ∷ []) ∷ (ab ∷ one ∷ []) ∷ (one ∷ one ∷ []) ∷ [])
    ≡ false ∷ false ∷ false ∷ false ∷ false ∷ []
unfolding conforms
rows_apart = refl

pub columns_found :
    (position_of (codes "t") two ≡ Some 1) × (position_of (codes "x") two ≡ None)
    × (kind_of (codes "t") two ≡ Some kind.Text) × (kind_of (codes "x") two ≡ None)
    × (value_of (codes "t") two (one ∷ ab ∷ []) ≡ ab) × (value_of (codes "x") two (one ∷ ab ∷ []) ≡ value.Null)
    × (value_of (codes "t") two (one ∷ []) ≡ value.Null)
columns_found = (refl, refl, refl, refl, refl, refl, refl)

-- so many columns, each with a name of its own
abbrev many : ℕ → List Column
many n = map (λ b. column (b ∷ []) kind.Int) (range_with_len 1 n)

pub columns_proper :
    (is_columns two ≡ true) × (is_columns (many 64) ≡ true) × (is_columns (many 1) ≡ true) × (is_columns [] ≡ false)
    × (is_columns (many 65) ≡ false) × (is_columns (column (codes "t") kind.Int ∷ two) ≡ false)
unfolding is_columns
columns_proper = (refl, refl, refl, refl, refl, refl)

-- ---- what a check is for

pub checks_take :
    (map (λ h. by_kind (takes h)) (how.Eq ∷ how.Lt ∷ how.Le ∷ how.Gt ∷ how.Ge ∷ [])
    ≡ (true ∷ true ∷ true ∷ []) ∷ replicate 4 (false ∷ true ∷ true ∷ []))
    × (by_kind (check_takes check.Null) ≡ true ∷ true ∷ true ∷ [])
    × (by_kind (check_takes (check.Like [])) ≡ false ∷ false ∷ true ∷ [])
    × (by_kind (check_takes (check.Bytes 0 0)) ≡ false ∷ false ∷ true ∷ [])
    × (by_kind (check_takes (check.Compare how.Lt one)) ≡ false ∷ true ∷ true ∷ [])
checks_take = (refl, refl, refl, refl, refl)

pub checks_right :
    (by_kind (check_is_right (check.Compare how.Eq one)) ≡ false ∷ true ∷ false ∷ [])
    × (by_kind (check_is_right (check.Compare how.Eq value.Null)) ≡ false ∷ false ∷ false ∷ [])
    × (by_kind (check_is_right check.Null) ≡ true ∷ true ∷ true ∷ [])
    × (by_kind (check_is_right (check.Like [])) ≡ true ∷ true ∷ true ∷ [])
    × (check_is_right (check.Bytes 2 2) kind.Text ≡ true) × (check_is_right (check.Bytes 2 1) kind.Text ≡ false)
checks_right = (refl, refl, refl, refl, refl, refl)

abbrev tests : Bool → List ℕ → Check → TestSpec
tests negated name c = record { negated = negated; column = name; check = c }

pub tests_fit :
    (test_fits (tests false (codes "n") (check.Compare how.Lt one)) two ≡ true)
    × (test_fits (tests true (codes "t") check.Null) two ≡ true)
    × (test_fits (tests false (codes "x") check.Null) two ≡ false)
    × (test_fits (tests false (codes "t") (check.Compare how.Lt one)) two ≡ false)
    × (test_fits (tests false (codes "n") (check.Like [])) two ≡ false)
    × (test_fits (tests false (codes "t") (check.Bytes 2 1)) two ≡ false)
unfolding test_fits
tests_fit = (refl, refl, refl, refl, refl, refl)

-- ---- what a check says

pub orders :
    map (λ h. map (order_is h) (Less ∷ Equal ∷ Greater ∷ [])) (how.Eq ∷ how.Lt ∷ how.Le ∷ how.Gt ∷ how.Ge ∷ [])
    ≡ (false ∷ true ∷ false ∷ []) ∷ (true ∷ false ∷ false ∷ []) ∷ (true ∷ true ∷ false ∷ [])
    ∷ (false ∷ false ∷ true ∷ []) ∷ (false ∷ true ∷ true ∷ []) ∷ []
orders = refl

pub values_ordered :
    (value_order (value.Bool false) (value.Bool true) ≡ Some Less)
    × (value_order (value.Int (negsuc 0)) (value.Int (pos 0)) ≡ Some Less)
    × (value_order (value.Text (codes "b")) (value.Text (codes "ab")) ≡ Some Greater)
    × (value_order ab ab ≡ Some Equal)
    × (map (λ v. value_order v one) (value.Null ∷ value.Bool true ∷ ab ∷ []) ≡ None ∷ None ∷ None ∷ [])
    × (map (λ v. value_order ab v) (value.Null ∷ value.Bool true ∷ one ∷ []) ≡ None ∷ None ∷ None ∷ [])
    × (map (λ v. value_order (value.Bool true) v) (value.Null ∷ ab ∷ one ∷ []) ≡ None ∷ None ∷ None ∷ [])
    × (value_order value.Null value.Null ≡ None)
values_ordered = (refl, refl, refl, refl, refl, refl, refl, refl)

-- the texts that are like each pattern, of these
abbrev alike : List ℕ → List Bool
alike pattern = map (like pattern) ([] ∷ codes "a" ∷ codes "ab" ∷ codes "abab" ∷ (195 ∷ 169 ∷ []) ∷ [])

pub patterns :
    (alike [] ≡ true ∷ false ∷ false ∷ false ∷ false ∷ [])
    × (alike (codes "*") ≡ true ∷ true ∷ true ∷ true ∷ true ∷ [])
    × (alike (codes "?") ≡ false ∷ true ∷ false ∷ false ∷ true ∷ [])
    × (alike (codes "a*") ≡ false ∷ true ∷ true ∷ true ∷ false ∷ [])
    × (alike (codes "*ab") ≡ false ∷ false ∷ true ∷ true ∷ false ∷ [])
    × (alike (codes "?b*b") ≡ false ∷ false ∷ false ∷ true ∷ false ∷ [])
unfolding chars
patterns = (refl, refl, refl, refl, refl, refl)

pub lengths :
    map (length_within 1 2) ([] ∷ codes "a" ∷ codes "ab" ∷ codes "abc" ∷ []) ≡ false ∷ true ∷ true ∷ false ∷ []
lengths = refl

pub checks_hold :
    (map (check_holds check.Null) (value.Null ∷ one ∷ []) ≡ true ∷ false ∷ [])
    × (map (check_holds (check.Compare how.Ge one)) (value.Null ∷ one ∷ value.Int (pos 0) ∷ ab ∷ [])
    ≡ false ∷ true ∷ false ∷ false ∷ [])
    × (map (check_holds (check.Bytes 0 9)) (value.Null ∷ value.Bool true ∷ one ∷ ab ∷ [])
    ≡ false ∷ false ∷ false ∷ true ∷ [])
checks_hold = (refl, refl, refl)

pub tests_hold :
    (test_holds (tests false (codes "n") (check.Compare how.Eq one)) two (row_of (one ∷ ab ∷ [])) ≡ true)
    × (test_holds (tests true (codes "n") (check.Compare how.Eq one)) two (row_of (one ∷ ab ∷ [])) ≡ false)
    × (test_holds (tests true (codes "t") (check.Like [])) two (row_of (one ∷ value.Null ∷ [])) ≡ true)
unfolding test_holds
tests_hold = (refl, refl, refl)
