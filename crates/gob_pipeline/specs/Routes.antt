-- Rows that are sent to the branches of a plan.
use Rattle.std.specs.Prelude.{◌≡◌, ℕ, ◌+◌, Bool, true, if◌then◌else◌, List, [], ◌∷◌, drop, map, take}
use Rattle.std.specs.declared.option.Option.{Option}
use Rattle.std.specs.declared.option.Option.TheVariants.{None, Some}
use Rattle.std.specs.Option.{is_some}
use Rattle.std.specs.List.{enumerate_from, list_any}
use Rattle.gob_plan.specs.declared.plan.BranchSpec.{BranchSpec}
use Rattle.gob_plan.specs.declared.plan.ForkSpec.{ForkSpec}
use Rattle.gob_plan.specs.declared.rows.Column.{Column}
use Rattle.gob_plan.specs.declared.rows.Row.{Row}
use Rattle.gob_plan.specs.Rows.{conforms}
use Rattle.gob_convert.specs.Made.{Made, concatenation, made_each}
use Rattle.gob_meaning.specs.Fork.{picks}
use Rattle.gob_meaning.specs.Items.{RowMade, made_in_branch}
use Rattle.gob_branch.specs.Branches.{BranchValue}

-- a fork, the columns of the rows that come to it, and the branches behind it
pub record RoutesValue : Type 0 where
  pub fork : ForkSpec
  pub columns : List Column
  pub branches : List BranchSpec

abbrev pub specs_of : List BranchValue → List BranchSpec
specs_of bs = map (λ b. b.spec) bs

-- the branches are numbered in order, and take rows of these columns
abbrev pub AreNumberedBranches : List Column → ℕ → List BranchValue → Type 0
AreNumberedBranches columns n [] = Unit {0}
AreNumberedBranches columns n (b ∷ bs) = (b.number ≡ n) × (b.columns ≡ columns) × AreNumberedBranches columns (n + 1) bs

-- the branch takes the row
abbrev pub is_taken : RoutesValue → Row → ℕ × BranchSpec → Bool
is_taken r row p = picks r.fork r.columns row p.0

-- what a branch makes of a row, where it takes it
abbrev pub branch_makes : RoutesValue → Row → ℕ × BranchSpec → Made RowMade
branch_makes r row p = if is_taken r row p then made_in_branch p.1 p.0 r.columns row else Some []

-- what all branches make of it
abbrev pub route_makes : RoutesValue → Row → Made RowMade
route_makes r row = made_each (branch_makes r row) (enumerate_from 0 r.branches)

-- some branch takes the row
abbrev pub is_routed : RoutesValue → Row → Bool
is_routed r row = list_any (is_taken r row) (enumerate_from 0 r.branches)

-- ---- a branch that waits for a row, where one does

abbrev pub is_taking : Option BranchValue → Row → Bool
is_taking None row = true
is_taking (Some b) row = conforms b.columns row

-- what it will make
abbrev pub waiting_makes : Option BranchValue → Row → Made RowMade
waiting_makes None row = Some []
waiting_makes (Some b) row = made_in_branch b.spec b.number b.columns row

-- so many branches were asked, and the row was sent to those that take it but the last, which waits: what the others
-- make of it is left
pub record RowSent (r : RoutesValue) (row : Row) (old now : List RowMade) (waiting : Option BranchValue) (i : ℕ)
    : Type 0 where
  pub taking : is_taking waiting row ≡ true
  pub made : concatenation (concatenation (Some now) (waiting_makes waiting row))
      (made_each (branch_makes r row) (drop i (enumerate_from 0 r.branches)))
      ≡ concatenation (Some old) (route_makes r row)
  pub routed_is : is_some waiting ≡ list_any (is_taken r row) (take i (enumerate_from 0 r.branches))
