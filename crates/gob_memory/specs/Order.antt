-- That names rise is a fact with one proof, so that a value may keep it.
use Rattle.std.specs.Prelude.{ℕ, List, [], ◌∷◌}
use Rattle.std.proofs.Props.{props}
use Rattle.gob_bytes.specs.Tables.{IsInByteOrder}

pub IsInByteOrder-prop : (names : List (List ℕ)) → IsProp (IsInByteOrder names)
IsInByteOrder-prop [] = hlevel props
IsInByteOrder-prop (x ∷ []) = hlevel props
IsInByteOrder-prop (x ∷ y ∷ ys) = hlevel (props, IsInByteOrder-prop (y ∷ ys))
