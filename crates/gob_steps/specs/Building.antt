-- Steps that are set up one after the other.
use Rattle.std.specs.Prelude.{◌≡◌, ℕ, List, drop, Ok, None}
use Rattle.gob_convert.specs.Made.{Made, then_each, made_through, shape_through, FitTogether}
use Rattle.gob_plan.specs.declared.rows.Column.{Column}
use Rattle.gob_plan.specs.declared.rows.Row.{Row}
use Rattle.gob_plan.specs.declared.steps.StepSpec.{StepSpec}
use Rattle.gob_meaning.specs.Steps.{columns_after, columns_through, first_refused_from, step_rows, chain_rows}
use Rattle.gob_steps.specs.declared.step.Step.{Step}

-- the columns of the rows that a step takes, and of those that it makes
abbrev pub columns_of : Step → List Column
columns_of s = s.columns

abbrev pub after_of : Step → List Column
after_of s = s.after

-- the rows that it makes of one
abbrev pub rows_of : Step → Row → Made Row
rows_of s row = step_rows s.spec s.columns row

-- the columns behind these steps
abbrev pub columns_behind_all : List Column → List Step → List Column
columns_behind_all columns list = shape_through after_of columns list

-- the step is what the spec says, on these columns
pub record IsStepFor (spec : StepSpec) (columns : List Column) (s : Step) : Type 0 where
  pub takes : columns_of s ≡ columns
  pub gives : columns_after spec columns ≡ Ok (after_of s)
  pub rows : (row : Row) → rows_of s row ≡ step_rows spec columns row

-- these steps are set up for the first of the specs, and what all specs say is what those that are left say behind them
pub record Building (specs : List StepSpec) (columns : List Column) (list : List Step) (i : ℕ) : Type 0 where
  pub follow : FitTogether columns_of after_of columns list
  pub output : columns_through (drop i specs) (columns_behind_all columns list) ≡ columns_through specs columns
  pub rows : (row : Row) → then_each (chain_rows (drop i specs) (columns_behind_all columns list))
      (made_through rows_of list row) ≡ chain_rows specs columns row
  pub refused : first_refused_from i (drop i specs) (columns_behind_all columns list) ≡ first_refused_from 0 specs
      columns

-- all are set up
pub record Built (specs : List StepSpec) (columns : List Column) (list : List Step) : Type 0 where
  pub follow : FitTogether columns_of after_of columns list
  pub output : columns_behind_all columns list ≡ columns_through specs columns
  pub rows : (row : Row) → made_through rows_of list row ≡ chain_rows specs columns row
  pub refused : first_refused_from 0 specs columns ≡ None
