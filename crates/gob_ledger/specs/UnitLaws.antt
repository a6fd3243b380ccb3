-- The laws of units: nothing is lost, and what is kept stays proper.
use Rattle.std.specs.Prelude.{◌≡◌, ◌⊎◌, ◌↔◌, ℕ, ◌<◌, ◌≤◌, true, false, List, length}
use Rattle.std.specs.declared.option.Option.TheVariants.{None, Some}
use Rattle.std.specs.List.{All, Contains, count_by}
use Rattle.std.specs.Str.{IsUtf8}
use Rattle.gob_bytes.specs.Lines.{line_ends}
use Rattle.gob_bytes.specs.Tables.{at_name, names_of, IsInByteOrder}
use Rattle.gob_device.specs.Supply.{Held, IsListed, bytes_at, listing_of}
use Rattle.gob_plan.specs.declared.plan.Limits.{Limits}
use Rattle.gob_plan.specs.declared.units.Unit.{Unit as WorkUnit}
use Rattle.gob_ledger.specs.Marks.{Span, has, is_done}
use Rattle.gob_ledger.specs.State.{State, TiledState, empty_state}
use Rattle.gob_ledger.specs.Units.{first_shrunk, is_kept, next_of, owed_unit, span_of, units_of}
use Rattle.gob_ledger.specs.Delta.{marks_or_none}
use Rattle.gob_ledger.specs.Spelling.{Proper}
use Rattle.gob_ledger.specs.Laws.{ProperUnit}
use Rattle.gob_ledger.specs.TurnLaws.{HaveBytes}

-- the owed ranges are the old units of a run, and an offset isn't done exactly where it is owed or at next or above
pub record StaysToBePulled (s : State) (held : Held) (limits : Limits) (part : List ℕ) : Type 0 where
  pub owed : (r : Span) → Contains (marks_or_none s part).owed r
      ↔ Contains (units_of s held limits) (owed_unit held limits part r)
  pub waits : (at : ℕ) → (is_done at (marks_or_none s part) ≡ false)
      ↔ ((next_of s.parts part ≤ at) ⊎ ((r : Span) × Contains (marks_or_none s part).owed r × (has at r ≡ true)))

-- no offset is lost: each that isn't done lies in a unit of each next run, or at next or above
abbrev pub NothingIsLost : Type 0
NothingIsLost = (s : State) (held : Held) (limits : Limits) (part : List ℕ)
    → TiledState s → IsInByteOrder (names_of s.parts) → StaysToBePulled s held limits part

-- an owed range, or a new one of a partition that the job takes
pub data IsOwedOrNew (s : State) (held : Held) (limits : Limits) (u : WorkUnit) : Type 0 where
  old : u ≡ owed_unit held limits u.part (span_of u) → Contains (marks_or_none s u.part).owed (span_of u)
      → IsOwedOrNew s held limits u
  new : u.fresh ≡ true → u.listed ≡ true → is_kept limits u.part ≡ true
      → (bytes : List ℕ) → at_name held u.part ≡ Some bytes → u.hi ≤ length bytes
      → next_of s.parts u.part ≤ u.lo → u.lo < u.hi
      → IsOwedOrNew s held limits u

-- each unit of a run is one of these
abbrev pub UnitsAreOwedOrNew : Type 0
UnitsAreOwedOrNew = (s : State) (held : Held) (limits : Limits) (u : WorkUnit)
    → TiledState s → IsInByteOrder (names_of s.parts) → IsInByteOrder (names_of held)
    → Contains (units_of s held limits) u → IsOwedOrNew s held limits u

-- each listed unit of a run has bytes
abbrev pub UnitsHaveBytes : Type 0
UnitsHaveBytes = (s : State) (held : Held) (limits : Limits)
    → TiledState s → IsInByteOrder (names_of s.parts) → IsInByteOrder (names_of held)
    → HaveBytes (units_of s held limits)

-- how many units of a run are new
abbrev pub new_count : List WorkUnit → ℕ
new_count units = count_by (λ u. u.fresh) units

-- no more new units than a run may take, and where there are fewer, every line behind next is in one
pub record TakesNew (s : State) (held : Held) (limits : Limits) : Type 0 where
  pub most : new_count (units_of s held limits) ≤ limits.max_new_units
  pub all : (part bytes : List ℕ) (end : ℕ) → new_count (units_of s held limits) < limits.max_new_units
      → is_kept limits part ≡ true → at_name held part ≡ Some bytes
      → Contains (line_ends bytes) end → next_of s.parts part < end
      → (u : WorkUnit) × Contains (units_of s held limits) u × (u.part ≡ part) × (u.fresh ≡ true) × (u.lo < end)
      × (end ≤ u.hi)

-- so it is in each run
abbrev pub NewUnitsReachTheEnd : Type 0
NewUnitsReachTheEnd = (s : State) (held : Held) (limits : Limits) → TakesNew s held limits

-- the state of a job that has committed nothing can be kept
abbrev pub EmptyIsProper : Type 0
EmptyIsProper = (branches : ℕ) → 1 ≤ branches → branches ≤ 8 → Proper (empty_state branches)

-- units can be kept where the state can, and where the source's names are text and its sizes fit
abbrev pub UnitsAreProper : Type 0
UnitsAreProper = (s : State) (held : Held) (limits : Limits) (u : WorkUnit)
    → Proper s → IsListed (listing_of held) → All (λ e. IsUtf8 e.0) held
    → Contains (units_of s held limits) u → ProperUnit u

-- each listed unit of a run lies within what is held, where no partition is shorter than what was taken of it
abbrev pub ListedUnitsAreHeld : Type 0
ListedUnitsAreHeld = (s : State) (held : Held) (limits : Limits) (u : WorkUnit)
    → TiledState s → IsInByteOrder (names_of s.parts) → IsInByteOrder (names_of held)
    → first_shrunk s.parts (listing_of held) ≡ None
    → Contains (units_of s held limits) u → u.listed ≡ true → u.hi ≤ length (bytes_at held u.part)
