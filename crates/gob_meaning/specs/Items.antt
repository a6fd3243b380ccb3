-- What one line makes.
use Rattle.std.specs.Prelude.{ℕ, Bool, if◌then◌else◌, not, ◌&&◌, nat_eq, List, [], ◌∷◌, filter, length}
use Rattle.std.specs.declared.option.Option.{Option}
use Rattle.std.specs.declared.option.Option.TheVariants.{None, Some}
use Rattle.std.specs.List.{list_any, enumerate_from}
use Rattle.gob_bytes.specs.Lines.{Line, raw_of, text_of}
use Rattle.gob_convert.specs.Made.{Made, made_each, then_each}
use Rattle.gob_plan.specs.declared.rows.Column.{Column}
use Rattle.gob_plan.specs.declared.rows.Row.{Row}
use Rattle.gob_plan.specs.declared.plan.BranchSpec.{BranchSpec}
use Rattle.gob_plan.specs.declared.plan.Plan.{Plan}
use Rattle.gob_meaning.specs.Formats.{line_rows, record_of}
use Rattle.gob_meaning.specs.Steps.{columns_through, chain_rows}
use Rattle.gob_meaning.specs.Policies.{Ruling, pass, to_error, kill, ruling}
use Rattle.gob_meaning.specs.Fork.{picks, place_of}

-- where bytes go: to a published file, an error file, or the file of bad lines
pub data Target : Type 0 where
  out : (branch : ℕ) (place : List ℕ) → Target
  err : (branch : ℕ) (place : List ℕ) → Target
  bad : Target

-- a row's record is written, or sent to the error file; or the row is killed by a policy
pub data End : Type 0 where
  written : (bytes : List ℕ) → End
  error : (bytes : List ℕ) → End
  killed : (policy : ℕ) → End

-- an item: what one row makes in a branch, with the number of optional policies that failed
pub record RowMade : Type 0 where
  pub branch : ℕ
  pub place : List ℕ
  pub optional : ℕ
  pub end : End

-- the items of a line, with the number of rows after the shared steps and of those that no branch takes
pub record RowsMade : Type 0 where
  pub items : List RowMade
  pub rows : ℕ
  pub unrouted : ℕ

-- a line makes nothing, or is refused as bad and makes its raw bytes alone, or makes items
pub data LineMade : Type 0 where
  nothing : LineMade
  bad_line : (raw : List ℕ) → LineMade
  made : RowsMade → LineMade

-- one item with this end
abbrev pub made_with_end : ℕ → List ℕ → ℕ → End → Made RowMade
made_with_end b place n end = Some (record { branch = b; place = place; optional = n; end = end } ∷ [])

-- the item of a row, by its ruling and its record; a killed row needs no record
abbrev pub row_made_of : ℕ → List ℕ → Ruling × ℕ → Option (List ℕ) → Made RowMade
row_made_of b place (kill k, n) bytes = made_with_end b place n (killed k)
row_made_of b place (pass, n) None = None
row_made_of b place (pass, n) (Some bytes) = made_with_end b place n (written bytes)
row_made_of b place (to_error k, n) None = None
row_made_of b place (to_error k, n) (Some bytes) = made_with_end b place n (error bytes)

-- the items of one row in one branch: of each row that the branch's steps make
unfoldable pub made_in_branch : BranchSpec → ℕ → List Column → Row → Made RowMade
made_in_branch branch b columns row =
    let after = columns_through branch.steps columns in
    then_each
    (λ q. row_made_of b (place_of branch.place after q) (ruling branch.policies after q)
    (record_of branch.format after q))
    (chain_rows branch.steps columns row)

-- the items of one row in each branch that takes it
abbrev pub made_in_branches : Plan → List Column → Row → Made RowMade
made_in_branches plan columns row =
    made_each (λ p. if picks plan.fork columns row p.0 then made_in_branch p.1 p.0 columns row else Some [])
    (enumerate_from 0 plan.branches)

-- some branch takes the row
abbrev pub is_picked : Plan → List Column → Row → Bool
is_picked plan columns row = list_any (λ p. picks plan.fork columns row p.0) (enumerate_from 0 plan.branches)

-- the items, with the number of rows and of those that no branch takes; one Bad row makes the whole line bad
abbrev pub made_of_items : Plan → List Column → List ℕ → List Row → Made RowMade → LineMade
made_of_items plan columns raw rows None = bad_line raw
made_of_items plan columns raw rows (Some items) = made (record {
  items = items;
  rows = length rows;
  unrouted = length (filter (λ r. not (is_picked plan columns r)) rows);
})

-- the same where the line itself may be Bad
abbrev pub made_of_rows : Plan → List Column → List ℕ → Made Row → LineMade
made_of_rows plan columns raw None = bad_line raw
made_of_rows plan columns raw (Some rows) =
    made_of_items plan columns raw rows (made_each (made_in_branches plan columns) rows)

-- what the line at this offset makes; a header is the line at offset 0
unfoldable pub line_made : Plan → ℕ → Line → LineMade
line_made plan offset line =
    if plan.skip_header && nat_eq offset 0 then nothing
    else made_of_rows plan (columns_through plan.steps plan.columns) (raw_of line)
    (then_each (chain_rows plan.steps plan.columns) (line_rows plan.format plan.columns (text_of line)))
