-- What the bytes of a unit make: the lines in order, what goes where, the counts, and where they stop.
use Rattle.std.specs.Prelude.{ℕ, ◌+◌, ◌-◌, ◌^◌, min, Bool, true, false, if◌then◌else◌, ◌&&◌, nat_eq, List, [], ◌∷◌, map}
use Rattle.std.specs.Prelude.{filter, flat_map, count_by, sum_by, length}
use Rattle.std.specs.declared.option.Option.{Option}
use Rattle.std.specs.declared.option.Option.TheVariants.{None, Some}
use Rattle.std.specs.Option.{option_map}
use Rattle.std.specs.List.{range_with_len}
use Rattle.std.specs.Str.{bytes_eq}
use Rattle.gob_bytes.specs.Lines.{Line, lines}
use Rattle.gob_plan.specs.declared.plan.Plan.{Plan}
use Rattle.gob_plan.specs.declared.units.BranchCounts.{BranchCounts}
use Rattle.gob_plan.specs.declared.units.Counts.{Counts}
use Rattle.gob_plan.specs.declared.units.Cause.{Cause}
use Rattle.gob_plan.specs.declared.units.Cause.TheVariants.{Kill, BadRecords}
use Rattle.gob_meaning.specs.Items.{Target, out, err, bad, End, written, error, killed, RowMade, LineMade, nothing}
use Rattle.gob_meaning.specs.Items.{bad_line, made, line_made}

-- a line with its offset in the partition
pub record Folded : Type 0 where
  pub at : ℕ
  pub made : LineMade

-- what a line makes at its offset
abbrev pub folded_line : Plan → ℕ → Line → Folded
folded_line plan lo l = record { at = lo + l.start; made = line_made plan (lo + l.start) l }

-- what each line of these bytes makes, where they begin at this offset
unfoldable pub unit_fold : Plan → ℕ → List ℕ → List Folded
unit_fold plan lo bytes = map (folded_line plan lo) (lines bytes)

-- bytes that a line sends, with their target
pub record Delivery : Type 0 where
  pub target : Target
  pub bytes : List ℕ

-- an item sends its record, unless its row is killed
abbrev pub delivery_of : RowMade → List Delivery
delivery_of i = sent i.end
  where
    sent : End → List Delivery
    sent (written bytes) = record { target = out i.branch i.place; bytes = bytes } ∷ []
    sent (error bytes) = record { target = err i.branch i.place; bytes = bytes } ∷ []
    sent (killed policy) = []

-- what a line sends
abbrev pub line_deliveries : LineMade → List Delivery
line_deliveries nothing = []
line_deliveries (bad_line raw) = record { target = bad; bytes = raw } ∷ []
line_deliveries (made m) = flat_map delivery_of m.items

-- what all lines send, in order
abbrev pub deliveries_of : List Folded → List Delivery
deliveries_of fold = flat_map (λ f. line_deliveries f.made) fold

-- two targets are one
abbrev pub same_target : Target → Target → Bool
same_target (out b p) (out c q) = nat_eq b c && bytes_eq p q
same_target (err b p) (err c q) = nat_eq b c && bytes_eq p q
same_target bad bad = true
same_target _ _ = false

-- the bytes that go to a target, joined in order; a target without bytes has no file
unfoldable pub sent_to : Target → List Delivery → List ℕ
sent_to t deliveries = flat_map (λ d. if same_target t d.target then d.bytes else []) deliveries

-- sums that stop at the end of a u64
abbrev pub saturate_u64 : ℕ → ℕ
saturate_u64 n = min n (2 ^ 64 - 1)

-- the items of a line
abbrev pub items_in : LineMade → List RowMade
items_in nothing = []
items_in (bad_line raw) = []
items_in (made m) = m.items

-- the line counts as a record: all but a header do
abbrev pub is_record : LineMade → Bool
is_record nothing = false
is_record (bad_line raw) = true
is_record (made m) = true

-- the line is a bad record
abbrev pub is_bad : LineMade → Bool
is_bad nothing = false
is_bad (bad_line raw) = true
is_bad (made m) = false

-- the rows of a line before the fork
abbrev pub rows_in : LineMade → ℕ
rows_in nothing = 0
rows_in (bad_line raw) = 0
rows_in (made m) = m.rows

-- those of them that no branch takes
abbrev pub unrouted_in : LineMade → ℕ
unrouted_in nothing = 0
unrouted_in (bad_line raw) = 0
unrouted_in (made m) = m.unrouted

-- the row is published
abbrev pub is_written : End → Bool
is_written (written bytes) = true
is_written (error bytes) = false
is_written (killed policy) = false

-- the row goes to the error file
abbrev pub is_error : End → Bool
is_error (written bytes) = false
is_error (error bytes) = true
is_error (killed policy) = false

-- the items of a branch
abbrev pub in_branch : ℕ → List Folded → List RowMade
in_branch b fold = filter (λ i. nat_eq i.branch b) (flat_map (λ f. items_in f.made) fold)

-- what is counted of a branch
abbrev pub branch_counts : List Folded → ℕ → BranchCounts
branch_counts fold b = record {
  written = saturate_u64 (count_by (λ i. is_written i.end) (in_branch b fold));
  errors = saturate_u64 (count_by (λ i. is_error i.end) (in_branch b fold));
  optional = saturate_u64 (sum_by (λ i. i.optional) (in_branch b fold));
}

-- what is counted of a unit
unfoldable pub counts_of : Plan → List Folded → Counts
counts_of plan fold = record {
  records = saturate_u64 (count_by (λ f. is_record f.made) fold);
  bad = saturate_u64 (count_by (λ f. is_bad f.made) fold);
  rows = saturate_u64 (sum_by (λ f. rows_in f.made) fold);
  unrouted = saturate_u64 (sum_by (λ f. unrouted_in f.made) fold);
  branches = map (branch_counts fold) (range_with_len 0 (length plan.branches));
}

-- a kill here, or else a later one
abbrev pub kill_or : ℕ → End → Option (ℕ × ℕ) → Option (ℕ × ℕ)
kill_or branch (written bytes) later = later
kill_or branch (error bytes) later = later
kill_or branch (killed policy) later = Some (branch, policy)

-- the branch and the policy of the first kill
abbrev pub first_kill : List RowMade → Option (ℕ × ℕ)
first_kill [] = None
first_kill (i ∷ items) = kill_or i.branch i.end (first_kill items)

-- why a line stops the unit, where so many bad ones may still pass
abbrev pub line_stop : ℕ → ℕ → LineMade → Option Cause
line_stop left at nothing = None
line_stop left at (bad_line raw) = if nat_eq left 0 then Some (BadRecords at) else None
line_stop left at (made m) = option_map (λ k. Kill k.0 k.1 at) (first_kill m.items)

-- how many bad lines may still pass behind this one
abbrev pub left_after : ℕ → LineMade → ℕ
left_after left line = left - (if is_bad line then 1 else 0)

-- what comes of a cause that is there, or else the later thing
abbrev pub stops_or : {A : Type 0} → Option Cause → (Cause → A) → A → A
stops_or None here later = later
stops_or (Some c) here later = here c

-- the first line that stops
abbrev pub stop_from : ℕ → List Folded → Option Cause
stop_from left [] = None
stop_from left (f ∷ fs) =
    stops_or (line_stop left f.at f.made) (λ c. Some c) (stop_from (left_after left f.made) fs)

-- the lines before it
abbrev pub before_stop_from : ℕ → List Folded → List Folded
before_stop_from left [] = []
before_stop_from left (f ∷ fs) =
    stops_or (line_stop left f.at f.made) (λ c. []) (f ∷ before_stop_from (left_after left f.made) fs)

-- why these lines stop the unit, if they do
unfoldable pub stop_of : Plan → List Folded → Option Cause
stop_of plan fold = stop_from plan.skip_errors fold

-- the lines before the one that stops it; all, where none does
unfoldable pub before_stop : Plan → List Folded → List Folded
before_stop plan fold = before_stop_from plan.skip_errors fold
