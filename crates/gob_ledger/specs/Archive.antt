-- What partitions held over time, and that a state's ranges lie in them on whole lines.
use Rattle.std.specs.Prelude.{◌≡◌, ◌⊎◌, ℕ, ◌≤◌, List, ◌++◌, length}
use Rattle.std.specs.declared.option.Option.TheVariants.{Some}
use Rattle.std.specs.List.{All, Contains}
use Rattle.gob_bytes.specs.Lines.{line_ends}
use Rattle.gob_bytes.specs.Tables.{at_name}
use Rattle.gob_device.specs.Supply.{Held}
use Rattle.gob_ledger.specs.Marks.{Marks, Span, spans_of}
use Rattle.gob_ledger.specs.State.{State, marks_at}

-- every partition of the source has the archive's bytes
abbrev pub Agrees : Held → Held → Type 0
Agrees archive held = (part bytes : List ℕ) → at_name held part ≡ Some bytes → at_name archive part ≡ Some bytes

-- each partition of the first is a front of the same in the second
abbrev pub Grows : Held → Held → Type 0
Grows first second = (part bytes : List ℕ) → at_name first part ≡ Some bytes
    → (more : List ℕ) × (at_name second part ≡ Some (bytes ++ more))

-- an offset where a line begins
abbrev pub IsLineStart : List ℕ → ℕ → Type 0
IsLineStart bytes at = (at ≡ 0) ⊎ Contains (line_ends bytes) at

-- a range of whole lines
pub record LiesOnLines (bytes : List ℕ) (s : Span) : Type 0 where
  pub lo : IsLineStart bytes s.lo
  pub hi : Contains (line_ends bytes) s.hi

-- all ranges lie in these bytes, on whole lines
pub record LiesIn (bytes : List ℕ) (m : Marks) : Type 0 where
  pub reached : m.next ≤ length bytes
  pub lines : All (LiesOnLines bytes) (spans_of m)

-- all ranges of the state lie in the archive's partitions
abbrev pub IsWithin : Held → State → Type 0
IsWithin archive s = (part : List ℕ) (m : Marks) → marks_at s part ≡ Some m
    → (bytes : List ℕ) × (at_name archive part ≡ Some bytes) × LiesIn bytes m
