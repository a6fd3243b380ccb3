-- The names that a call of a volume may be given.
use Rattle.std.specs.Prelude.{◌≡◌, ℕ, Bool, true, false, not, nat_eq, List, [], ◌∷◌}
use Rattle.std.specs.List.{list_all}

-- the byte isn't NUL, which ends a name for the operating system
abbrev pub is_name_byte : ℕ → Bool
is_name_byte b = not (nat_eq b 0)

-- at least one byte, and none of them NUL
abbrev pub is_pathname : List ℕ → Bool
is_pathname [] = false
is_pathname (b ∷ bs) = list_all is_name_byte (b ∷ bs)

abbrev pub IsPathname : List ℕ → Type 0
IsPathname name = is_pathname name ≡ true
