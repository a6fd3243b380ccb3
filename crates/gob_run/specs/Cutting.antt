-- What is cut for a run, over a source that tells and over any other.
use Rattle.std.specs.Prelude.{◌≡◌, ℕ, ◌+◌, ◌<◌, ◌≤◌, List, [], IfSome}
use Rattle.std.specs.declared.option.Option.{Option}
use Rattle.std.specs.declared.option.Option.TheVariants.{None, Some}
use Rattle.gob_bytes.specs.Tables.{Table, IsInByteOrder, names_of}
use Rattle.gob_device.specs.Causes.{Rose}
use Rattle.gob_device.specs.Supply.{Supply, listing_of}
use Rattle.gob_plan.specs.declared.plan.Limits.{Limits}
use Rattle.gob_ledger.specs.Marks.{Marks}
use Rattle.gob_ledger.specs.State.{State}
use Rattle.gob_ledger.specs.UnitLaws.{new_count}
use Rattle.gob_ledger.specs.Units.{first_shrunk, next_of, range_count, too_long, units_of_parts}
use Rattle.gob_cut.specs.Units.{UnitsAre}
use Rattle.gob_cut.specs.declared.run_units.Cut.{Cut}
use Rattle.gob_run.specs.Entry.{most_ranges}
use Rattle.gob_run.specs.declared.fault.RunFault.{RunFault}
use Rattle.gob_run.specs.declared.fault.RunFault.TheVariants.{Damaged, Shrunk, Full, SourceFault, VolumeFault, Memory}

-- the partitions of a state; without one there are none
abbrev pub parts_of : Option State → Table Marks
parts_of None = []
parts_of (Some s) = s.parts

-- over a source that tells, the cut is the definition's, and no partition shrank
pub record CutIsTold (parts : Table Marks) (limits : Limits) (cut : Cut) (s : Supply) : Type 0 where
  pub units : cut.units ≡ units_of_parts parts s.held limits
  pub too_long : cut.too_long ≡ too_long limits (names_of s.held)
  pub unshrunk : first_shrunk parts (listing_of s.held) ≡ None
  pub rising : IsInByteOrder (names_of s.held)

-- the cut's units are what they should be, and the state has room for them
pub record CutFits (parts : Table Marks) (limits : Limits) (old : Option Supply) (cut : Cut) : Type 0 where
  pub are : UnitsAre parts limits cut
  pub room : range_count parts + new_count cut.units ≤ most_ranges
  pub told : IfSome old (CutIsTold parts limits cut)

-- the partition's listed size is below what was taken of it, and it is the first such
pub record ShrunkAt (parts : Table Marks) (part : List ℕ) (next size : ℕ) (s : Supply) : Type 0 where
  pub first : first_shrunk parts (listing_of s.held) ≡ Some (part, size)
  pub taken : next ≡ next_of parts part

-- there is no room for so many new units beside so many ranges
pub record NoRoom (parts : Table Marks) (limits : Limits) (ranges units : ℕ) (old : Option Supply) : Type 0 where
  pub stored : ranges ≡ range_count parts
  pub many : most_ranges < ranges + units
  pub told : IfSome old (λ s. (first_shrunk parts (listing_of s.held) ≡ None)
      × (units ≡ new_count (units_of_parts parts s.held limits)))

-- why nothing was cut
abbrev pub CutNot : Table Marks → Limits → Option Supply → ℕ → ℕ → RunFault → Type 0
CutNot parts limits old before now (Damaged name) = ⊥
CutNot parts limits old before now (Shrunk part next size) = IfSome old (ShrunkAt parts part next size)
CutNot parts limits old before now (Full ranges units) = NoRoom parts limits ranges units old
CutNot parts limits old before now SourceFault = Rose before now
CutNot parts limits old before now VolumeFault = ⊥
CutNot parts limits old before now Memory = Unit {0}
