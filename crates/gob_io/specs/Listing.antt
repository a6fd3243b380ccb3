-- A listing as a source answers it.
use Rattle.std.specs.Prelude.{◌≡◌, ℕ, List, [], ◌∷◌}
use Rattle.std.specs.declared.cmp.Ordering.TheVariants.{Less}
use Rattle.std.proofs.Props.{props}
use Rattle.gob_bytes.specs.Tables.{name_cmp}
use Rattle.gob_device.specs.Supply.{IsListed}
use Rattle.gob_memory.specs.Order.{IsInByteOrder-prop}
use Rattle.gob_io.specs.declared.source.Part.{Part}

-- a partition's name and its size
abbrev pub entry_of : Part → List ℕ × ℕ
entry_of p = (p.name, p.size)

-- the name is below the first of these
abbrev pub IsBelow : List ℕ → List (List ℕ) → Type 0
IsBelow name [] = Unit {0}
IsBelow name (next ∷ names) = name_cmp name next ≡ Less

-- the form of a listing is a fact with one proof, so that a value may keep it
pub IsListed-prop : (listing : List (List ℕ × ℕ)) → IsProp (IsListed listing)
IsListed-prop listing = hlevel (props, IsInByteOrder-prop)
