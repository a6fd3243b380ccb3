-- Cuts of several partitions, taken in rounds.
use Rattle.std.specs.Prelude.{◌≡◌, ℕ, ◌≤◌, ◌<◌, Bool, false, List, [], ◌∷◌, map, length, get_or, is_some, All, cond}
use Rattle.std.specs.Prelude.{nat_lt}
use Rattle.std.specs.declared.option.Option.{Option}
use Rattle.std.specs.declared.option.Option.TheVariants.{None, Some}
use Rattle.std.specs.List.{flat_map}
use Rattle.gob_bytes.specs.Lines.{line_ends}
use Rattle.gob_bytes.specs.Tables.{Table, at_name}
use Rattle.gob_device.specs.Supply.{Held, bytes_at}
use Rattle.gob_plan.specs.declared.units.Unit.{Unit as WorkUnit}
use Rattle.gob_ledger.specs.Marks.{Marks, Span}
use Rattle.gob_ledger.specs.Units.{cuts, in_rounds, new_unit, next_of}
use Rattle.gob_cut.specs.declared.rounds.Cursor.{Cursor}

-- all cuts of a partition from an offset on
unfoldable pub cuts_from : Held → ℕ → List ℕ → ℕ → List WorkUnit
cuts_from held max part lo =
    let ends = line_ends (bytes_at held part) in
    map (new_unit part) (cuts (length ends) ends max lo)

-- all rounds over these lists
unfoldable pub all_rounds : List (List WorkUnit) → List WorkUnit
all_rounds lists = in_rounds (length (flat_map (λ xs. xs) lists)) lists

-- the listed partition at a place, and its size
abbrev pub part_at : Table ℕ → ℕ → List ℕ
part_at kept place = (get_or kept place ([], 0)).0

abbrev pub size_at : Table ℕ → ℕ → ℕ
size_at kept place = (get_or kept place ([], 0)).1

-- the cuts that are left of the partitions that haven't ended
abbrev pub lists_of : Held → ℕ → Table ℕ → List Cursor → List (List WorkUnit)
lists_of held max kept cursors = map (λ c. cuts_from held max (part_at kept c.place) c.at) cursors

-- a place of the list, and an offset within its partition
pub record IsCursor (kept : Table ℕ) (c : Cursor) : Type 0 where
  pub place : c.place < length kept
  pub at : c.at ≤ size_at kept c.place

-- the unit of a cut that was found, and where its partition goes on
abbrev pub found_units : List ℕ → ℕ → Option ℕ → List WorkUnit
found_units part lo None = []
found_units part lo (Some hi) = new_unit part (record { lo = lo; hi = hi }) ∷ []

abbrev pub found_cursors : ℕ → Option ℕ → List Cursor
found_cursors place None = []
found_cursors place (Some hi) = record { place = place; at = hi } ∷ []

-- a partition goes on where it has new bytes
abbrev pub first_cursor : ℕ → ℕ → ℕ → List Cursor
first_cursor place at size = cond (nat_lt at size) (record { place = place; at = at } ∷ []) []

-- the listed sizes are those of what is held
abbrev pub AreSized : Held → Table ℕ → Type 0
AreSized held kept = All (λ e. e.1 ≡ length (bytes_at held e.0)) kept

-- all cuts of these partitions, each from where its new bytes begin
abbrev pub all_cuts_of : Held → Table Marks → ℕ → Table ℕ → List (List WorkUnit)
all_cuts_of held parts max kept = map (λ e. cuts_from held max e.0 (next_of parts e.0)) kept

-- a range that was open, as a unit
abbrev pub unit_of_range : List ℕ → Bool → Span → WorkUnit
unit_of_range part listed s = record { part = part; lo = s.lo; hi = s.hi; fresh = false; listed = listed }

-- an owed range as a unit, over the partitions that the job takes
abbrev pub owed_unit_of : Table ℕ → List ℕ → Span → WorkUnit
owed_unit_of kept part s = unit_of_range part (is_some (at_name kept part)) s

abbrev pub owed_units_of : Table ℕ → Table Marks → List WorkUnit
owed_units_of kept parts = flat_map (λ e. map (owed_unit_of kept e.0) e.1.owed) parts
