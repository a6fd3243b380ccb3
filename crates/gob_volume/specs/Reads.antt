-- What a read from the middle of a file answers.
use Rattle.std.specs.Prelude.{ℕ, List, take, drop}
use Rattle.std.specs.declared.option.Option.{Option}
use Rattle.std.specs.declared.option.Option.TheVariants.{None, Some}
use Rattle.gob_device.specs.Supply.{Fills}

-- None exactly where there is no file; else the front of the buffer is what stands from the offset on
abbrev pub ReadsAt : Option (List ℕ) → ℕ → ℕ → Option ℕ → List ℕ → Type 0
ReadsAt None at len None buffer = Unit {0}
ReadsAt (Some bytes) at len (Some n) buffer = Fills buffer n (take len (drop at bytes))
ReadsAt None at len (Some n) buffer = ⊥
ReadsAt (Some bytes) at len None buffer = ⊥
