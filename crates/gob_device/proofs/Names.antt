-- Names that a call may be given.
use Rattle.std.proofs.Common.{◌≡◌, ℕ, zero, suc, Bool, true, false, ◌&&◌, List, [], ◌∷◌, ◌++◌, refl}
use Rattle.std.proofs.Math.Dec.{eqb-suc-zero}
use Rattle.std.specs.List.{list_all}
use Rattle.gob_device.specs.Names.{is_name_byte, IsPathname}

both : (a b : Bool) → a && b ≡ true → (a ≡ true) × (b ≡ true)
both true true e = (refl, refl)
both true false e = cc
both false b e = cc

name_byte : (fits : ℕ → Bool) → fits 0 ≡ false → (b : ℕ) → fits b ≡ true → is_name_byte b ≡ true
name_byte fits nul zero e = cc
name_byte fits nul (suc b) e = rw (eqb-suc-zero b) refl

-- bytes of an alphabet without NUL
pub name_bytes : (fits : ℕ → Bool) → fits 0 ≡ false → (bytes : List ℕ)
    → list_all fits bytes ≡ true → list_all is_name_byte bytes ≡ true
name_bytes fits nul [] all = refl
name_bytes fits nul (b ∷ bs) all =
    let first = both (fits b) (list_all fits bs) all in
    rw (name_byte fits nul b first.0) (name_bytes fits nul bs first.1)

pub bytes_of_name : (name : List ℕ) → IsPathname name → list_all is_name_byte name ≡ true
bytes_of_name [] named = cc
bytes_of_name (b ∷ bs) named = named

bytes_then : (front back : List ℕ) → list_all is_name_byte front ≡ true → list_all is_name_byte back ≡ true
    → list_all is_name_byte (front ++ back) ≡ true
bytes_then [] back all rest = rest
bytes_then (b ∷ bs) back all rest =
    let first = both (is_name_byte b) (list_all is_name_byte bs) all in
    rw first.0 (bytes_then bs back first.1 rest)

-- a name with more bytes behind it or before it
pub name_before : (name bytes : List ℕ) → IsPathname name → list_all is_name_byte bytes ≡ true
    → IsPathname (name ++ bytes)
name_before [] bytes named all = cc
name_before (b ∷ bs) bytes named all = bytes_then (b ∷ bs) bytes named all

pub name_behind : (bytes name : List ℕ) → list_all is_name_byte bytes ≡ true → IsPathname name
    → IsPathname (bytes ++ name)
name_behind [] name all named = named
name_behind (b ∷ bs) name all named = bytes_then (b ∷ bs) name all (bytes_of_name name named)
