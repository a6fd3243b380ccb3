-- What a test says of a row, and which columns it fits.
use Rattle.std.specs.Prelude.{ℕ, Bool, true, false, cond, not, ◌&&◌, ◌||◌, nat_eq, nat_le, List, [], ◌∷◌, length}
use Rattle.std.specs.declared.option.Option.{Option}
use Rattle.std.specs.declared.option.Option.TheVariants.{None, Some}
use Rattle.std.specs.declared.cmp.Ordering.{Ordering}
use Rattle.std.specs.List.{list_any}
use Rattle.std.specs.Ordering.{nat_cmp, int_cmp, bool_cmp, is_eq, is_lt, is_le, is_gt, is_ge}
use Rattle.std.specs.Cmp.Lexicographic.{slice_cmp}
use Rattle.std.specs.Str.{chars}
use Rattle.gob_plan.specs.declared.rows.Kind.{Kind}
use Rattle.gob_plan.specs.declared.rows.Value.{Value}
use Rattle.gob_plan.specs.declared.rows.Value.TheVariants as value
use Rattle.gob_plan.specs.declared.rows.Column.{Column}
use Rattle.gob_plan.specs.declared.rows.Row.{Row}
use Rattle.gob_plan.specs.declared.checks.How.{How}
use Rattle.gob_plan.specs.declared.checks.How.TheVariants as how
use Rattle.gob_plan.specs.declared.checks.Check.{Check}
use Rattle.gob_plan.specs.declared.checks.Check.TheVariants as check
use Rattle.gob_plan.specs.declared.checks.TestSpec.{TestSpec}
use Rattle.gob_plan.specs.Rows.{is_null, is_of, is_int, is_text, kind_of, value_of}

-- how two values of one kind stand to each other, texts by their bytes
abbrev pub value_order : Value → Value → Option Ordering
value_order (value.Bool a) (value.Bool b) = Some (bool_cmp a b)
value_order (value.Int a) (value.Int b) = Some (int_cmp a b)
value_order (value.Text a) (value.Text b) = Some (slice_cmp nat_cmp a b)
value_order value.Null w = None
value_order (value.Bool a) value.Null = None
value_order (value.Bool a) (value.Int b) = None
value_order (value.Bool a) (value.Text b) = None
value_order (value.Int a) value.Null = None
value_order (value.Int a) (value.Bool b) = None
value_order (value.Int a) (value.Text b) = None
value_order (value.Text a) value.Null = None
value_order (value.Text a) (value.Bool b) = None
value_order (value.Text a) (value.Int b) = None

-- an order is the one that is asked for
abbrev pub order_is : How → Ordering → Bool
order_is how.Eq o = is_eq o
order_is how.Lt o = is_lt o
order_is how.Le o = is_le o
order_is how.Gt o = is_gt o
order_is how.Ge o = is_ge o

-- the first value compares so with the second; Null and values of two kinds don't compare
abbrev pub compares : How → Option Ordering → Bool
compares h None = false
compares h (Some o) = order_is h o

-- a list and what is left of it after each front
abbrev pub endings : List ℕ → List (List ℕ)
endings [] = [] ∷ []
endings (c ∷ cs) = (c ∷ cs) ∷ endings cs

-- one character that passes, and then the rest
abbrev pub one_then : (ℕ → Bool) → (List ℕ → Bool) → List ℕ → Bool
one_then passes more [] = false
one_then passes more (c ∷ cs) = passes c && more cs

-- the whole text matches the pattern: '*' stands for any characters, '?' for one, all else for itself
abbrev pub matches : List ℕ → List ℕ → Bool
matches [] [] = true
matches [] (c ∷ cs) = false
matches (p ∷ ps) cs = cond (nat_eq p 42) (list_any (λ left. matches ps left) (endings cs))
    (one_then (λ c. nat_eq p 63 || nat_eq p c) (λ left. matches ps left) cs)

-- the same for texts, by their characters
abbrev pub like : List ℕ → List ℕ → Bool
like pattern text = matches (chars pattern) (chars text)

-- the length in bytes is in the range
abbrev pub length_within : ℕ → ℕ → List ℕ → Bool
length_within low high text = nat_le low (length text) && nat_le (length text) high

-- what holds of the text of a value; nothing does of another value
abbrev pub of_text : (List ℕ → Bool) → Value → Bool
of_text holds value.Null = false
of_text holds (value.Bool b) = false
of_text holds (value.Int n) = false
of_text holds (value.Text t) = holds t

-- what a check says of a value; of Null each is false but the check for Null
abbrev pub check_holds : Check → Value → Bool
check_holds check.Null v = is_null v
check_holds (check.Compare h w) v = compares h (value_order v w)
check_holds (check.Like pattern) v = of_text (like pattern) v
check_holds (check.Bytes low high) v = of_text (length_within low high) v

-- what a test says of a row; a negated one says the opposite, of Null too
unfoldable pub test_holds : TestSpec → List Column → Row → Bool
test_holds t columns row = let holds = check_holds t.check (value_of t.column columns row.values) in cond t.negated
    (not holds) holds

-- the kinds that may be compared so
abbrev pub takes : How → Kind → Bool
takes how.Eq k = true
takes how.Lt k = is_int k || is_text k
takes how.Le k = is_int k || is_text k
takes how.Gt k = is_int k || is_text k
takes how.Ge k = is_int k || is_text k

-- the check is for values of this kind
abbrev pub check_takes : Check → Kind → Bool
check_takes check.Null k = true
check_takes (check.Compare h w) k = takes h k
check_takes (check.Like pattern) k = is_text k
check_takes (check.Bytes low high) k = is_text k

-- its own words are right for this kind: a value to compare with is of the kind, and a least length isn't above the
-- greatest
abbrev pub check_is_right : Check → Kind → Bool
check_is_right check.Null k = true
check_is_right (check.Compare h w) k = is_of k w
check_is_right (check.Like pattern) k = true
check_is_right (check.Bytes low high) k = nat_le low high

-- the check goes with the kind of a column that is there
abbrev pub fits_kind : Check → Option Kind → Bool
fits_kind c None = false
fits_kind c (Some k) = check_takes c k && check_is_right c k

-- the test names one of the columns, and its check goes with that column's kind
unfoldable pub test_fits : TestSpec → List Column → Bool
test_fits t columns = fits_kind t.check (kind_of t.column columns)
