-- Why no units were cut.
use Rattle.std.specs.Prelude.{◌≡◌, ℕ, List}
use Rattle.std.specs.declared.option.Option.TheVariants.{Some}
use Rattle.gob_bytes.specs.Tables.{Table}
use Rattle.gob_ledger.specs.Marks.{Marks}
use Rattle.gob_ledger.specs.Units.{first_shrunk, next_of}
use Rattle.gob_cut.specs.declared.fault.CutFault.{CutFault}
use Rattle.gob_cut.specs.declared.fault.CutFault.TheVariants as fault
use Rattle.gob_cut.specs.declared.fault.Stop.{Stop}
use Rattle.gob_cut.specs.declared.fault.Stop.TheVariants.{Failed, Memory}

-- a stop, as the fault of the whole call
abbrev pub cut_fault_of : Stop → CutFault
cut_fault_of Failed = fault.Failed
cut_fault_of Memory = fault.Memory

-- the first partition of the listing that is shorter than what was taken of it
pub record NamesShrunk (parts : Table Marks) (listing : List (List ℕ × ℕ)) (part : List ℕ) (next size : ℕ) : Type 0
  where
    pub first : first_shrunk parts listing ≡ Some (part, size)
    pub taken : next ≡ next_of parts part

-- a partition that shrank is named; the source didn't fail
abbrev pub IsShrunk : Table Marks → List (List ℕ × ℕ) → CutFault → Type 0
IsShrunk parts listing (fault.Shrunk part next size) = NamesShrunk parts listing part next size
IsShrunk parts listing fault.Failed = ⊥
IsShrunk parts listing fault.Memory = Unit {0}

-- where a partition that shrank is named, it is the first one
abbrev pub ShrunkIsTold : Table Marks → List (List ℕ × ℕ) → CutFault → Type 0
ShrunkIsTold parts listing (fault.Shrunk part next size) = NamesShrunk parts listing part next size
ShrunkIsTold parts listing fault.Failed = Unit {0}
ShrunkIsTold parts listing fault.Memory = Unit {0}
