-- What the units of a run are, whatever the source answers.
use Rattle.std.specs.Prelude.{◌≡◌, ℕ, ◌<◌, ◌≤◌, true, not, List, ◌++◌, All, length}
use Rattle.std.specs.declared.option.Option.TheVariants.{None, Some}
use Rattle.std.specs.List.{Contains, filter}
use Rattle.gob_bytes.specs.Tables.{Table, at_name, names_of}
use Rattle.gob_device.specs.Supply.{IsListed}
use Rattle.gob_plan.specs.declared.plan.Limits.{Limits}
use Rattle.gob_plan.specs.declared.units.Unit.{Unit as WorkUnit}
use Rattle.gob_meaning.specs.Laws.{IsRange}
use Rattle.gob_ledger.specs.Laws.{ProperUnit}
use Rattle.gob_ledger.specs.Marks.{Marks}
use Rattle.gob_ledger.specs.Spelling.{ProperPart}
use Rattle.gob_ledger.specs.UnitLaws.{new_count}
use Rattle.gob_ledger.specs.Units as ledger
use Rattle.gob_cut.specs.declared.run_units.Cut.{Cut}
use Rattle.gob_cut.specs.Rounds.{owed_units_of}

-- the partitions of a listing that the job takes, with their sizes
abbrev pub kept_of : Limits → Table ℕ → Table ℕ
kept_of limits listing = filter (λ e. ledger.is_kept limits e.0) listing

-- the unit ends within the listed size of its partition
pub record IsListedUnit (kept : Table ℕ) (u : WorkUnit) : Type 0 where
  pub size : ℕ
  pub there : at_name kept u.part ≡ Some size
  pub within : u.hi ≤ size

-- a new unit of a listed partition
pub record IsNewUnit (kept : Table ℕ) (u : WorkUnit) : Type 0 where
  pub fresh : u.fresh ≡ true
  pub listed : u.listed ≡ true
  pub some : u.lo < u.hi
  pub place : IsListedUnit kept u

-- the open ranges, and then new units, which follow each other in each partition from its next
pub record AreCut (kept : Table ℕ) (parts : Table Marks) (most : ℕ) (units : List WorkUnit) : Type 0 where
  pub added : List WorkUnit
  pub are : units ≡ owed_units_of kept parts ++ added
  pub few : length added ≤ most
  pub each : All (IsNewUnit kept) added
  pub follow : (part : List ℕ) → ledger.AreAdjacentFrom (ledger.next_of parts part) (ledger.fresh_in part added)

-- the marks of every partition can be kept
abbrev pub AreProper : Table Marks → Type 0
AreProper parts = (part : List ℕ) (m : Marks) → at_name parts part ≡ Some m → ProperPart part m

-- what is said of the units and the long names that were cut from a listing
pub record UnitsAre (parts : Table Marks) (limits : Limits) (cut : Cut) : Type 0 where
  pub listing : Table ℕ
  pub listed : IsListed listing
  pub whole : ledger.first_shrunk parts listing ≡ None
  pub long : cut.too_long ≡ ledger.too_long limits (names_of listing)
  pub fit : ledger.UnitsFit parts cut.units
  pub few : new_count cut.units ≤ limits.max_new_units
  pub owed : filter (λ u. not u.fresh) cut.units ≡ owed_units_of (kept_of limits listing) parts
  pub some : (u : WorkUnit) → Contains cut.units u → u.lo < u.hi
  pub placed : (u : WorkUnit) → Contains cut.units u → u.listed ≡ true → IsListedUnit (kept_of limits listing) u
  pub proper : AreProper parts → (u : WorkUnit) → Contains cut.units u → ProperUnit u
  pub ranges : AreProper parts → (u : WorkUnit) → Contains cut.units u → IsRange u.part u.lo u.hi
