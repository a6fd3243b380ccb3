-- Steps and branches, and what a branch makes of a row behind its steps.
use Rattle.std.specs.Prelude.{◌≡◌, ℕ, true, List, [], ◌∷◌, get_or}
use Rattle.std.specs.declared.option.Option.{Option}
use Rattle.std.specs.declared.option.Option.TheVariants.{None, Some}
use Rattle.gob_convert.specs.Made.{Made}
use Rattle.gob_plan.specs.declared.rows.Column.{Column}
use Rattle.gob_plan.specs.declared.rows.Row.{Row}
use Rattle.gob_plan.specs.declared.rows.Value.TheVariants as value
use Rattle.gob_plan.specs.declared.plan.PlaceSpec.{PlaceSpec}
use Rattle.gob_plan.specs.declared.plan.BranchSpec.{BranchSpec}
use Rattle.gob_plan.specs.declared.steps.StepSpec.{StepSpec}
use Rattle.gob_plan.specs.Rows.{conforms}
use Rattle.gob_meaning.specs.Days.{day_folder}
use Rattle.gob_meaning.specs.Formats.{record_of}
use Rattle.gob_meaning.specs.Steps.{columns_through}
use Rattle.gob_meaning.specs.Policies.{Ruling, ruling}
use Rattle.gob_meaning.specs.Fork.{place_of}
use Rattle.gob_meaning.specs.Items.{RowMade, row_made_of}
use Rattle.gob_timeplace.specs.declared.day.Day.{Day}
use Rattle.gob_branch.specs.declared.items.ItemEnd.{ItemEnd}
use Rattle.gob_branch.specs.ItemSpans.{row_made}

-- steps, and the columns of the rows that the first one takes
pub record ChainValue : Type 0 where
  pub steps : List StepSpec
  pub before : List Column

-- the columns of the rows that come out
abbrev pub after_chain : ChainValue → List Column
after_chain c = columns_through c.steps c.before

-- a branch, with its number and the columns of the rows that it takes
pub record BranchValue : Type 0 where
  pub number : ℕ
  pub spec : BranchSpec
  pub columns : List Column

-- the columns behind its steps
abbrev pub after_branch : BranchValue → List Column
after_branch b = columns_through b.spec.steps b.columns

-- the item of a row behind the steps
abbrev pub made_of_row : BranchValue → Row → Made RowMade
made_of_row b q = row_made_of b.number (place_of b.spec.place (after_branch b) q)
    (ruling b.spec.policies (after_branch b) q) (record_of b.spec.format (after_branch b) q)

-- ---- folders

-- the folder of a row's day, or none
abbrev pub place_by : Option Day → Row → List ℕ
place_by None row = []
place_by (Some day) row = day_folder (get_or row.values day.column value.Null)

-- rows of these columns are placed so
abbrev pub Places : PlaceSpec → List Column → Option Day → Type 0
Places spec columns day =
    (row : Row) → conforms columns row ≡ true → place_of spec columns row ≡ place_by day row

-- ---- ends

-- by this ruling, and with this record where there is one, the item ends so, whatever its branch, place and number are
abbrev pub EndsSo : Ruling → Option (List ℕ) → ItemEnd → List ℕ → Type 0
EndsSo r record_made end bytes = (b : ℕ) (place : List ℕ) (n : ℕ)
    → row_made_of b place (r, n) record_made ≡ Some (row_made b place n end bytes ∷ [])

-- the item would need the record, which isn't there
abbrev pub EndsBad : Ruling → Option (List ℕ) → Type 0
EndsBad r record_made = (b : ℕ) (place : List ℕ) (n : ℕ) → row_made_of b place (r, n) record_made ≡ None
