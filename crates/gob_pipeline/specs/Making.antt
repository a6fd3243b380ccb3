-- What a line that isn't the header makes, in the parts that its plan is set up in.
use Rattle.std.specs.Prelude.{◌≡◌, ℕ, Bool, not, List}
use Rattle.gob_convert.specs.Made.{Made, then_each}
use Rattle.gob_plan.specs.declared.rows.Row.{Row}
use Rattle.gob_plan.specs.declared.plan.Plan.{Plan}
use Rattle.gob_meaning.specs.Formats.{line_rows}
use Rattle.gob_meaning.specs.Steps.{chain_rows, columns_through}
use Rattle.gob_meaning.specs.Items.{RowMade, LineMade, bad_line, made, made_of_rows}
use Rattle.gob_branch.specs.Branches.{ChainValue}
use Rattle.gob_pipeline.specs.Routes.{RoutesValue, is_routed}

-- the shared steps of a plan
abbrev pub chain_of : Plan → ChainValue
chain_of plan = record { steps = plan.steps; before = plan.columns }

-- its fork and its branches, behind the steps
abbrev pub routes_of : Plan → RoutesValue
routes_of plan = record {
  fork = plan.fork;
  columns = columns_through plan.steps plan.columns;
  branches = plan.branches;
}

-- no branch takes the row
abbrev pub is_left : RoutesValue → Row → Bool
is_left r row = not (is_routed r row)

-- the rows of a line with this text, behind the shared steps
abbrev pub rows_of_text : Plan → List ℕ → Made Row
rows_of_text plan text = then_each (chain_rows plan.steps plan.columns) (line_rows plan.format plan.columns text)

-- what a line of these bytes with this text makes
abbrev pub text_makes : Plan → List ℕ → List ℕ → LineMade
text_makes plan text raw = made_of_rows plan (columns_through plan.steps plan.columns) raw (rows_of_text plan text)

-- a line with this text makes these items, of so many rows, so many of which no branch takes
abbrev pub MadeText : Plan → List ℕ → List RowMade → ℕ → ℕ → Type 0
MadeText plan text items rows unrouted = (raw : List ℕ) → text_makes plan text raw
    ≡ made (record { items = items; rows = rows; unrouted = unrouted })

-- a line with this text is bad
abbrev pub BadText : Plan → List ℕ → Type 0
BadText plan text = (raw : List ℕ) → text_makes plan text raw ≡ bad_line raw
