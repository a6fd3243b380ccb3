-- What stands after a vector could not be extended for want of memory.
use Rattle.std.specs.Prelude.{◌≡◌, ℕ, List, ◌++◌, take}

-- what was there, and a front of the addition
abbrev pub AddsFront : List ℕ → List ℕ → List ℕ → Type 0
AddsFront old new addition = (k : ℕ) × (new ≡ old ++ take k addition)
