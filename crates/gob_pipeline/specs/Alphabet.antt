-- The bytes of a target's name.
use Rattle.std.specs.Prelude.{◌≡◌, ℕ, Bool, true, false, ◌||◌, nat_eq, List, [], ◌∷◌, ◌++◌, codes}
use Rattle.std.specs.List.{list_all}
use Rattle.std.specs.Fmt.{decimal}
use Rattle.gob_bytes.specs.Escapes.{is_plain}
use Rattle.gob_plan.specs.declared.plan.Plan.{Plan}
use Rattle.gob_meaning.specs.Items.{Target, out, err, bad}
use Rattle.gob_meaning.specs.Names.{branch_extension}

-- a plain byte, '/', '@' or '%'
abbrev pub is_target_byte : ℕ → Bool
is_target_byte b = is_plain b || nat_eq b 47 || nat_eq b 64 || nat_eq b 37

-- at least one byte, and all of them such ones
abbrev pub is_target_name : List ℕ → Bool
is_target_name [] = false
is_target_name (b ∷ bs) = list_all is_target_byte (b ∷ bs)

abbrev pub IsTargetName : List ℕ → Type 0
IsTargetName name = is_target_name name ≡ true

-- what of a name tells the target, in front of the range
abbrev pub front_of_name : Target → List ℕ
front_of_name (out b place) = codes "out/" ++ decimal b ++ 47 ∷ place
front_of_name (err b place) = codes "err/" ++ decimal b ++ 47 ∷ place
front_of_name bad = codes "err/line/"

-- and behind it
abbrev pub end_of_name : Plan → Target → List ℕ
end_of_name plan (out b place) = branch_extension plan b
end_of_name plan (err b place) = branch_extension plan b
end_of_name plan bad = codes "raw"
