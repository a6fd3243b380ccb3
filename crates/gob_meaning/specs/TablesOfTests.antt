-- What tests say of values, and which columns they fit, as tables.
use Rattle.std.specs.Prelude.{◌≡◌, Bool, true, false, List, [], ◌∷◌, map, codes, not}
use Rattle.gob_plan.specs.declared.rows.Kind.TheVariants as kind
use Rattle.gob_plan.specs.declared.rows.Value.{Value}
use Rattle.gob_plan.specs.declared.rows.Value.TheVariants as value
use Rattle.gob_plan.specs.declared.rows.Column.{Column}
use Rattle.gob_plan.specs.declared.checks.How.{How}
use Rattle.gob_plan.specs.declared.checks.How.TheVariants as how
use Rattle.gob_plan.specs.declared.checks.Check.{Check}
use Rattle.gob_plan.specs.declared.checks.Check.TheVariants as check
use Rattle.gob_plan.specs.Tests.{test_holds, test_fits}
use Rattle.gob_meaning.specs.Samples.{text, int, minus, yes, no, row, text_column, column, test, negation}

-- the ways to compare: equal, below, at most, above, at least
abbrev ways : List How
ways = how.Eq ∷ how.Lt ∷ how.Le ∷ how.Gt ∷ how.Ge ∷ []

-- a yes or no for each way
abbrev of_ways : Bool → Bool → Bool → Bool → Bool → List Bool
of_ways eq lt le gt ge = eq ∷ lt ∷ le ∷ gt ∷ ge ∷ []

-- the first of two is the smaller one
abbrev smaller : List Bool
smaller = of_ways false true true false false

-- the two are one
abbrev same : List Bool
same = of_ways true false true false true

-- the first is the larger one
abbrev larger : List Bool
larger = of_ways false false false true true

-- the two don't compare
abbrev apart : List Bool
apart = of_ways false false false false false

-- ---- what a test says of a value

-- what a check says of the value in the only column
abbrev says : Check → Value → Bool
says c v = test_holds (test "c" c) (text_column "c" ∷ []) (row (v ∷ []))

-- a value of a row, a value to compare it with, and how they stand
abbrev compare_table : List (Value × Value × List Bool)
compare_table =
    (int 1, int 2, smaller)
    ∷ (int 2, int 2, same)
    ∷ (int 3, int 2, larger)
    ∷ (minus 2, minus 1, smaller)
    ∷ (minus 1, int 0, smaller)
    ∷ (int 0, minus 1, larger)
    ∷ (int 10, int 9, larger)
    -- texts by their bytes
    ∷ (text "a", text "b", smaller)
    ∷ (text "a", text "a", same)
    ∷ (text "b", text "a", larger)
    ∷ (text "Z", text "a", smaller)
    ∷ (text "a", text "ab", smaller)
    ∷ (text "10", text "9", smaller)
    ∷ (text "", text "", same)
    ∷ (text "~", value.Text (195 ∷ 169 ∷ []), smaller)
    -- truth values: of these only the first way is asked
    ∷ (yes, yes, same)
    ∷ (no, no, same)
    ∷ (no, yes, smaller)
    ∷ (yes, no, larger)
    -- Null and values of two kinds don't compare
    ∷ (value.Null, int 1, apart)
    ∷ (value.Null, text "", apart)
    ∷ (value.Null, no, apart)
    ∷ (int 1, yes, apart)
    ∷ (int 1, text "1", apart)
    ∷ (yes, int 1, apart)
    ∷ (yes, text "true", apart)
    ∷ (text "1", int 1, apart)
    ∷ (text "true", yes, apart)
    ∷ []

-- each two compare so
abbrev pub CompareTable : Type 0
CompareTable = map (λ r. map (λ h. says (check.Compare h r.1) r.0) ways) compare_table ≡ map (λ r. r.2) compare_table

-- another check, a value, and what it says
abbrev check_table : List (Check × Value × Bool)
check_table =
    (check.Null, value.Null, true)
    ∷ (check.Null, no, false)
    ∷ (check.Null, int 0, false)
    ∷ (check.Null, text "", false)
    -- the whole text matches: '*' is any characters, '?' is one, all else is itself
    ∷ (check.Like (codes "abc"), text "abc", true)
    ∷ (check.Like (codes "abc"), text "abcd", false)
    ∷ (check.Like (codes "abc"), text "ab", false)
    ∷ (check.Like (codes "abc"), text "ABC", false)
    ∷ (check.Like (codes "*"), text "", true)
    ∷ (check.Like (codes ""), text "", true)
    ∷ (check.Like (codes ""), text "a", false)
    ∷ (check.Like (codes "a*c*"), text "abcbd", true)
    ∷ (check.Like (codes "a*c"), text "abcbc", true)
    ∷ (check.Like (codes "a*c"), text "abcbd", false)
    ∷ (check.Like (codes "a**"), text "a", true)
    ∷ (check.Like (codes "?b"), text "ab", true)
    ∷ (check.Like (codes "?"), text "", false)
    ∷ (check.Like (codes "??"), text "a", false)
    ∷ (check.Like (codes "?"), value.Text (195 ∷ 169 ∷ []), true)
    ∷ (check.Like (codes "*"), value.Null, false)
    ∷ (check.Like (codes "*"), int 1, false)
    -- the length in bytes, both ends included
    ∷ (check.Bytes 2 3, text "a", false)
    ∷ (check.Bytes 2 3, text "ab", true)
    ∷ (check.Bytes 2 3, text "abc", true)
    ∷ (check.Bytes 2 3, text "abcd", false)
    ∷ (check.Bytes 2 2, value.Text (195 ∷ 169 ∷ []), true)
    ∷ (check.Bytes 0 9, value.Null, false)
    ∷ (check.Bytes 0 9, int 1, false)
    ∷ []

-- each check says so, and turned round it says the opposite, of Null too
abbrev pub CheckTable : Type 0
CheckTable = map (λ r. says r.0 r.1 ∷ says_not r.0 r.1 ∷ []) check_table ≡ map (λ r. r.2 ∷ not r.2 ∷ []) check_table
  where
    says_not : Check → Value → Bool
    says_not c v = test_holds (negation (test "c" c)) (text_column "c" ∷ []) (row (v ∷ []))

-- ---- which columns a test fits

-- a column of each kind
abbrev columns : List Column
columns = column "b" kind.Bool ∷ column "i" kind.Int ∷ column "t" kind.Text ∷ []

-- a check, and whether it fits a column of kind bool, of kind int, of kind text, and one that isn't there
abbrev fit_table : List (Check × List Bool)
fit_table =
    (check.Null, true ∷ true ∷ true ∷ false ∷ [])
    ∷ (check.Compare how.Eq yes, true ∷ false ∷ false ∷ false ∷ [])
    ∷ (check.Compare how.Eq (int 1), false ∷ true ∷ false ∷ false ∷ [])
    ∷ (check.Compare how.Eq (text "1"), false ∷ false ∷ true ∷ false ∷ [])
    ∷ (check.Compare how.Eq value.Null, false ∷ false ∷ false ∷ false ∷ [])
    ∷ (check.Compare how.Lt yes, false ∷ false ∷ false ∷ false ∷ [])
    ∷ (check.Compare how.Lt (int 1), false ∷ true ∷ false ∷ false ∷ [])
    ∷ (check.Compare how.Lt (text "1"), false ∷ false ∷ true ∷ false ∷ [])
    ∷ (check.Compare how.Le yes, false ∷ false ∷ false ∷ false ∷ [])
    ∷ (check.Compare how.Le (int 1), false ∷ true ∷ false ∷ false ∷ [])
    ∷ (check.Compare how.Le (text "1"), false ∷ false ∷ true ∷ false ∷ [])
    ∷ (check.Compare how.Gt yes, false ∷ false ∷ false ∷ false ∷ [])
    ∷ (check.Compare how.Gt (int 1), false ∷ true ∷ false ∷ false ∷ [])
    ∷ (check.Compare how.Gt (text "1"), false ∷ false ∷ true ∷ false ∷ [])
    ∷ (check.Compare how.Ge yes, false ∷ false ∷ false ∷ false ∷ [])
    ∷ (check.Compare how.Ge (int 1), false ∷ true ∷ false ∷ false ∷ [])
    ∷ (check.Compare how.Ge (text "1"), false ∷ false ∷ true ∷ false ∷ [])
    ∷ (check.Like (codes "*"), false ∷ false ∷ true ∷ false ∷ [])
    ∷ (check.Bytes 5 5, false ∷ false ∷ true ∷ false ∷ [])
    ∷ (check.Bytes 5 4, false ∷ false ∷ false ∷ false ∷ [])
    ∷ []

-- each check fits so
abbrev pub FitTable : Type 0
FitTable = map (λ r. map (λ name. test_fits (record { negated = true; column = name; check = r.0 }) columns)
    (codes "b" ∷ codes "i" ∷ codes "t" ∷ codes "zz" ∷ [])) fit_table ≡ map (λ r. r.1) fit_table
