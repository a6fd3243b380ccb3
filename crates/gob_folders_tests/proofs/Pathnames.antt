-- Names that a call may be given.
use Rattle.std.proofs.Common.{◌≡◌, ℕ, true, List, [], ◌∷◌, length, refl}
use Rattle.std.specs.List.{list_all}
use Rattle.gob_device.specs.Names.{IsPathname, is_name_byte}

-- a name that has bytes, none of them NUL
pub name_of_bytes : (name : List ℕ) → (length name ≡ 0 → ⊥) → list_all is_name_byte name ≡ true → IsPathname name
name_of_bytes [] some all = absurd (some refl)
name_of_bytes (b ∷ bs) some all = all
