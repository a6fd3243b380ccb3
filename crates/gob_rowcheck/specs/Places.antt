-- Columns by their place.
use Rattle.std.specs.Prelude.{ℕ, Bool, true, false, ◌&&◌, nat_eq, List, [], ◌∷◌, map}
use Rattle.std.specs.declared.option.Option.{Option}
use Rattle.std.specs.declared.option.Option.TheVariants.{None, Some}
use Rattle.gob_plan.specs.declared.rows.Column.{Column}
use Rattle.gob_plan.specs.declared.checks.Check.{Check}
use Rattle.gob_plan.specs.declared.checks.Check.TheVariants as check
use Rattle.gob_plan.specs.declared.checks.TestSpec.{TestSpec}
use Rattle.gob_plan.specs.declared.plan.PolicySpec.{PolicySpec}
use Rattle.gob_plan.specs.Columns.{position_of}

-- the number is there and is this one
abbrev pub is_at : Option ℕ → ℕ → Bool
is_at None place = false
is_at (Some i) place = nat_eq i place

-- the first column with this name stands at this place
abbrev pub stands_at : List ℕ → List Column → ℕ → Bool
stands_at name columns place = is_at (position_of name columns) place

-- the columns with these names stand at these places, in their order
abbrev pub stand_at : List (List ℕ) → List Column → List ℕ → Bool
stand_at [] columns [] = true
stand_at [] columns (p ∷ ps) = false
stand_at (n ∷ ns) columns [] = false
stand_at (n ∷ ns) columns (p ∷ ps) = stands_at n columns p && stand_at ns columns ps

-- the columns of tests, and of policies
abbrev pub columns_tested : List TestSpec → List (List ℕ)
columns_tested tests = map (λ t. t.column) tests

abbrev pub columns_judged : List PolicySpec → List (List ℕ)
columns_judged policies = map (λ p. p.test.column) policies

-- a check by no pattern
abbrev pub is_plain_check : Check → Bool
is_plain_check check.Null = true
is_plain_check (check.Compare h w) = true
is_plain_check (check.Like pattern) = false
is_plain_check (check.Bytes low high) = true
