-- A line as it is taken: what it makes, what it sends and what it counts.
use Rattle.std.specs.Prelude.{◌≡◌, ℕ, zero, suc, ◌+◌, ◌*◌, Bool, if◌then◌else◌, ◌&&◌, nat_eq, nat_lt, List, [], ◌∷◌}
use Rattle.std.specs.Prelude.{◌++◌, map, filter, count_by, sum_by, length, true}
use Rattle.std.specs.declared.option.Option.{Option}
use Rattle.std.specs.declared.option.Option.TheVariants.{None, Some}
use Rattle.std.specs.List.{range_with_len}
use Rattle.gob_bytes.specs.Lines.{Line, raw_of, has_no_feed}
use Rattle.gob_bytes.specs.Tables.{Table, at_name, with_name}
use Rattle.std.specs.Option.{unwrap_or}
use Rattle.gob_plan.specs.declared.plan.Plan.{Plan}
use Rattle.gob_plan.specs.declared.units.BranchCounts.{BranchCounts}
use Rattle.gob_plan.specs.declared.units.Counts.{Counts}
use Rattle.gob_meaning.specs.Items.{RowMade, LineMade, nothing, bad_line, made, line_made}
use Rattle.gob_meaning.specs.Fold.{Folded, branch_counts, saturate_u64, is_record, is_bad, is_written, is_error}
use Rattle.gob_meaning.specs.Fold.{rows_in, unrouted_in}
use Rattle.gob_meaning.specs.Fold.{deliveries_of, before_stop_from, line_stop, left_after}
use Rattle.gob_meaning.specs.Sums.{sum_of}
use Rattle.gob_pipeline.specs.Made.{Buffers, AddsTo, is_place}
use Rattle.gob_pipeline.specs.declared.pipeline.LineEnd.{LineEnd}
use Rattle.gob_pipeline.specs.declared.pipeline.LineEnd.TheVariants as end
use Rattle.gob_pipeline.specs.declared.tally.Tally.{Tally}

-- what a line of these bytes makes, by how it ends and by the items that it leaves
abbrev pub line_of_end : LineEnd → List ℕ → List RowMade → LineMade
line_of_end end.Header raw items = nothing
line_of_end end.Bad raw items = bad_line raw
line_of_end (end.Made rows unrouted) raw items =
    made (record { items = items; rows = rows; unrouted = unrouted })

-- each line of these bytes makes this at the offset
abbrev pub LineMakes : Plan → ℕ → List ℕ → LineMade → Type 0
LineMakes plan at raw l = (line : Line) → raw_of line ≡ raw → line_made plan at line ≡ l

-- the branch of an item has its slots among so many, and its place is one that a name can have
abbrev pub item_fits : ℕ → RowMade → Bool
item_fits slots i = nat_lt (2 * i.branch + 2) slots && is_place i.place

abbrev pub line_folds : ℕ → LineMade → List Folded
line_folds at l = record { at = at; made = l } ∷ []

-- ---- counts

-- a line with these items, for what branches count
abbrev pub fold_of_items : List RowMade → List Folded
fold_of_items items = line_folds 0 (made (record { items = items; rows = 0; unrouted = 0 }))

-- what a line counts, for so many branches
abbrev pub counts_of_line : ℕ → LineMade → Counts
counts_of_line branches l = record {
  records = saturate_u64 (count_by (λ f. is_record f.made) (line_folds 0 l));
  bad = saturate_u64 (count_by (λ f. is_bad f.made) (line_folds 0 l));
  rows = saturate_u64 (sum_by (λ f. rows_in f.made) (line_folds 0 l));
  unrouted = saturate_u64 (sum_by (λ f. unrouted_in f.made) (line_folds 0 l));
  branches = map (branch_counts (line_folds 0 l)) (range_with_len 0 branches);
}

-- the counts with one item more
abbrev pub with_one_item : BranchCounts → RowMade → BranchCounts
with_one_item c i = record {
  written = saturate_u64 (c.written + (if is_written i.end then 1 else 0));
  errors = saturate_u64 (c.errors + (if is_error i.end then 1 else 0));
  optional = saturate_u64 (c.optional + i.optional);
}

-- ---- a line that is taken

-- a line was taken: what it sends was added to the buffers, but of one that stops the unit
pub record TakesLine (plan : Plan) (old new : Tally) (at : ℕ) (raw : List ℕ) (before after : Buffers) : Type 0 where
  pub line : LineMade
  pub makes : LineMakes plan at raw line
  pub stop : new.stop ≡ line_stop old.bad_left at line
  pub added : AddsTo before after (deliveries_of (before_stop_from old.bad_left (line_folds at line)))
  pub counts : new.stop ≡ None → new.counts ≡ sum_of old.counts (counts_of_line (length plan.branches) line)
  pub bad_left : new.stop ≡ None → new.bad_left ≡ left_after old.bad_left line

-- ---- buffers

-- the table with more bytes at the end of what a place has
abbrev pub with_bytes_at : Table (List ℕ) → List ℕ → List ℕ → Table (List ℕ)
with_bytes_at table place bytes = with_name table place (unwrap_or (at_name table place) [] ++ bytes)

-- ---- line feeds

-- bytes that end in the one line feed among them
abbrev pub IsOneLine : List ℕ → Type 0
IsOneLine bytes = (x : List ℕ) × (bytes ≡ x ++ 10 ∷ []) × (has_no_feed x ≡ true)

-- the first line ends here
abbrev pub EndsAt : List ℕ → Option ℕ → Type 0
EndsAt bytes None = has_no_feed bytes ≡ true
EndsAt bytes (Some e) = (x y : List ℕ) × (bytes ≡ x ++ 10 ∷ y) × (has_no_feed x ≡ true) × (e ≡ length x + 1)

-- ---- no line

abbrev pub none_counted : ℕ → List BranchCounts
none_counted zero = []
none_counted (suc n) = record { written = 0; errors = 0; optional = 0 } ∷ none_counted n

abbrev pub zero_counts : ℕ → Counts
zero_counts branches =
    record { records = 0; bad = 0; rows = 0; unrouted = 0; branches = none_counted branches }
