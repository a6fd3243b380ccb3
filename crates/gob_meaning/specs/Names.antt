-- The names of a unit's files.
use Rattle.std.specs.Prelude.{ℕ, List, [], ◌∷◌, ◌++◌, codes}
use Rattle.std.specs.Option.{option_map, unwrap_or}
use Rattle.std.specs.List.{slice_get}
use Rattle.std.specs.Fmt.{decimal}
use Rattle.gob_bytes.specs.Digits.{offset}
use Rattle.gob_bytes.specs.Escapes.{escape_of}
use Rattle.gob_plan.specs.declared.plan.Format.{Format}
use Rattle.gob_plan.specs.declared.plan.Format.TheVariants as format
use Rattle.gob_plan.specs.declared.plan.Plan.{Plan}
use Rattle.gob_meaning.specs.Items.{Target, out, err, bad}

-- how a file of a format ends
abbrev pub extension : Format → List ℕ
extension format.Lines = codes "txt"
extension format.Csv = codes "csv"
extension format.Json = codes "json"

-- how a branch's files end
abbrev pub branch_extension : Plan → ℕ → List ℕ
branch_extension plan b = unwrap_or (option_map (λ s. extension s.format) (slice_get plan.branches b)) []

-- of a range of a partition
abbrev pub range_name : List ℕ → ℕ → ℕ → List ℕ → List ℕ
range_name part lo hi ext = escape_of part ++ 64 ∷ offset lo ++ 45 ∷ offset hi ++ 46 ∷ ext

-- the name of a target, without the job's folder
unfoldable pub target_name : Plan → List ℕ → ℕ → ℕ → Target → List ℕ
target_name plan part lo hi (out b place) =
    codes "out/" ++ decimal b ++ 47 ∷ place ++ range_name part lo hi (branch_extension plan b)
target_name plan part lo hi (err b place) =
    codes "err/" ++ decimal b ++ 47 ∷ place ++ range_name part lo hi (branch_extension plan b)
target_name plan part lo hi bad = codes "err/line/" ++ range_name part lo hi (codes "raw")
