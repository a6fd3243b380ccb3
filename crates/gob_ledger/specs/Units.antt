-- The work units of a run: the ranges that are owed, and then cuts of what is new.
use Rattle.std.specs.Prelude.{◌≡◌, ℕ, zero, suc, ◌+◌, ◌<◌, Bool, true, false, not, ◌&&◌, nat_eq, nat_le, nat_lt, List}
use Rattle.std.specs.Prelude.{[], ◌∷◌, ◌++◌, map, length, take, option_map, unwrap_or}
use Rattle.std.specs.Option.{is_some, option_to_list}
use Rattle.std.specs.declared.option.Option.{Option}
use Rattle.std.specs.declared.option.Option.TheVariants.{None, Some}
use Rattle.std.specs.List.{filter, find, last_or, flat_map, range_with_len, slice_get, sum_by, Contains, IsDistinct}
use Rattle.std.specs.Str.{bytes_eq}
use Rattle.gob_bytes.specs.Escapes.{escape_of}
use Rattle.gob_bytes.specs.Lines.{line_ends}
use Rattle.gob_bytes.specs.Paths.{begins_with}
use Rattle.gob_bytes.specs.Tables.{Table, at_name}
use Rattle.gob_device.specs.Supply.{Held}
use Rattle.gob_plan.specs.declared.plan.Limits.{Limits}
use Rattle.gob_plan.specs.declared.units.Unit.{Unit as WorkUnit}
use Rattle.gob_ledger.specs.Marks.{Marks, Span}
use Rattle.gob_ledger.specs.State.{State}

-- where a cut from lo ends: at the last line end within max bytes, else at the first one behind
abbrev pub cut_end : List ℕ → ℕ → ℕ → Option ℕ
cut_end ends lo max =
    let within = filter (λ e. nat_lt lo e && nat_le e (lo + max)) ends in
    last_or (find (λ e. nat_lt (lo + max) e) ends) within

-- a cut to this end, where there is one, and the later ones
abbrev pub then_cuts : ℕ → Option ℕ → (ℕ → List Span) → List Span
then_cuts lo None later = []
then_cuts lo (Some hi) later = record { lo = lo; hi = hi } ∷ later hi

-- the cuts from lo on, at most so many, each behind the one before
abbrev pub cuts : ℕ → List ℕ → ℕ → ℕ → List Span
cuts zero ends max lo = []
cuts (suc k) ends max lo = then_cuts lo (cut_end ends lo max) (cuts k ends max)

-- the partition's name begins with the job's prefix
abbrev pub has_prefix : Limits → List ℕ → Bool
has_prefix limits part = begins_with limits.prefix part

-- a name that a file's name can hold
abbrev pub is_short : List ℕ → Bool
is_short part = nat_le (length (escape_of part)) 180

-- the job takes this partition
abbrev pub is_kept : Limits → List ℕ → Bool
is_kept limits part = has_prefix limits part && is_short part

-- the partitions that are left alone for their names
abbrev pub too_long : Limits → List (List ℕ) → List (List ℕ)
too_long limits names = filter (λ part. has_prefix limits part && not (is_short part)) names

-- where a partition's new bytes begin
abbrev pub next_of : Table Marks → List ℕ → ℕ
next_of parts part = unwrap_or (option_map (λ m. m.next) (at_name parts part)) 0

-- the first partition of a listing that is shorter than what was taken of it
abbrev pub first_shrunk : Table Marks → List (List ℕ × ℕ) → Option (List ℕ × ℕ)
first_shrunk parts listing = find (λ e. nat_lt e.1 (next_of parts e.0)) listing

-- the number of all ranges
abbrev pub range_count : Table Marks → ℕ
range_count parts = sum_by (λ e. length e.1.finished + length e.1.owed) parts

-- a unit's range
abbrev pub span_of : WorkUnit → Span
span_of u = record { lo = u.lo; hi = u.hi }

-- a new unit: no earlier run had it, and its partition is listed
abbrev pub new_unit : List ℕ → Span → WorkUnit
new_unit part s = record { part = part; lo = s.lo; hi = s.hi; fresh = true; listed = true }

-- all cuts of a partition with these bytes
abbrev pub cuts_of : Table Marks → Limits → List ℕ × List ℕ → List WorkUnit
cuts_of parts limits e =
    let ends = line_ends e.1 in
    map (new_unit e.0) (cuts (length ends) ends limits.max_bytes (next_of parts e.0))

-- the first of each list, then the second of each, and so on
abbrev pub in_rounds : {A : Type 0} → ℕ → List (List A) → List A
in_rounds rounds lists =
    flat_map (λ k. flat_map (λ xs. option_to_list (slice_get xs k)) lists) (range_with_len 0 rounds)

-- the partitions that the job takes
abbrev pub kept_parts : Limits → Held → Held
kept_parts limits held = filter (λ e. is_kept limits e.0) held

-- the cuts of each of them
abbrev pub all_cuts : Table Marks → Held → Limits → List (List WorkUnit)
all_cuts parts held limits = map (cuts_of parts limits) (kept_parts limits held)

-- the source lists the partition, and the job takes it
abbrev pub is_listed : Held → Limits → List ℕ → Bool
is_listed held limits part = is_some (at_name held part) && is_kept limits part

-- an owed range as a unit
abbrev pub owed_unit : Held → Limits → List ℕ → Span → WorkUnit
owed_unit held limits part s =
    record { part = part; lo = s.lo; hi = s.hi; fresh = false; listed = is_listed held limits part }

-- the owed ranges, by partition and offset
abbrev pub owed_units : Table Marks → Held → Limits → List WorkUnit
owed_units parts held limits = flat_map (λ e. map (owed_unit held limits e.0) e.1.owed) parts

-- the new units: rounds over the cuts of all partitions, as many as a run may take
abbrev pub new_units : Table Marks → Held → Limits → List WorkUnit
new_units parts held limits =
    let lists = all_cuts parts held limits in
    take limits.max_new_units (in_rounds (length (flat_map (λ xs. xs) lists)) lists)

-- the units of a run over these partitions
unfoldable pub units_of_parts : Table Marks → Held → Limits → List WorkUnit
units_of_parts parts held limits = owed_units parts held limits ++ new_units parts held limits

-- the units of a run that finds this state
abbrev pub units_of : State → Held → Limits → List WorkUnit
units_of s held limits = units_of_parts s.parts held limits

-- units that begin at from and follow each other
abbrev pub AreAdjacentFrom : ℕ → List WorkUnit → Type 0
AreAdjacentFrom from [] = Unit {0}
AreAdjacentFrom from (u ∷ us) = (u.lo ≡ from) × (u.lo < u.hi) × AreAdjacentFrom u.hi us

-- the new units of a partition
abbrev pub fresh_in : List ℕ → List WorkUnit → List WorkUnit
fresh_in part units = filter (λ u. u.fresh && bytes_eq u.part part) units

-- two ranges are one
abbrev pub same_span : Span → Span → Bool
same_span a b = nat_eq a.lo b.lo && nat_eq a.hi b.hi

-- two units are of one range
abbrev pub same_unit : WorkUnit → WorkUnit → Bool
same_unit u v = bytes_eq u.part v.part && same_span (span_of u) (span_of v)

-- an owed range of its partition
abbrev pub IsOwed : Table Marks → WorkUnit → Type 0
IsOwed parts u = (m : Marks) × (at_name parts u.part ≡ Some m) × Contains m.owed (span_of u)

-- units that a state can take in: each once, the old ones owed, the fresh ones of each partition in a row from its next
pub record UnitsFit (parts : Table Marks) (units : List WorkUnit) : Type 0 where
  pub once : IsDistinct same_unit units
  pub owed : (u : WorkUnit) → Contains units u → u.fresh ≡ false → IsOwed parts u
  pub fresh : (part : List ℕ) → AreAdjacentFrom (next_of parts part) (fresh_in part units)
