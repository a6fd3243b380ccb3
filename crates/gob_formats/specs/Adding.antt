-- What is left of a list that was added to.
use Rattle.std.specs.Prelude.{◌≡◌, List, length, take}

-- what was there before is there still, in front
abbrev pub KeepsFront : {A : Type 0} → List A → List A → Type 0
KeepsFront old new = take (length old) new ≡ old
