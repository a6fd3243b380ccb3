-- How far a list has been read.
use Rattle.std.specs.Prelude.{List, ◌++◌}
use Rattle.std.specs.declared.option.Option.{Option}
use Rattle.std.specs.declared.result.Result.{Result}
use Rattle.std.specs.Option.{option_map}
use Rattle.gob_jobs.specs.Words.{value_map}

-- what was read before what is still to be read
abbrev pub behind : {A : Type 0} → List A → Option (List A) → Option (List A)
behind done left = option_map (λ later. done ++ later) left

-- the same where there may be a fault
abbrev pub behind_ok : {A E : Type 0} → List A → Result (List A) E → Result (List A) E
behind_ok done left = value_map (λ later. done ++ later) left
