-- The units that are committed together.
use Rattle.std.specs.Prelude.{ℕ, Bool, if◌then◌else◌, nat_eq, List, [], ◌∷◌, map}
use Rattle.std.specs.declared.option.Option.{Option}
use Rattle.std.specs.declared.option.Option.TheVariants.{None, Some}
use Rattle.std.specs.List.{filter}
use Rattle.std.specs.Option.{option_map, unwrap_or}
use Rattle.std.specs.Str.{bytes_eq}
use Rattle.gob_bytes.specs.Tables.{Table, at_name, with_name}
use Rattle.gob_plan.specs.declared.plan.CommitScope.{CommitScope}
use Rattle.gob_plan.specs.declared.plan.CommitScope.TheVariants as scope
use Rattle.gob_plan.specs.declared.plan.CommitPolicy.{CommitPolicy}
use Rattle.gob_ledger.specs.Next.{Judged, allows}

-- what stands before the first slash, where there is one
abbrev pub before_slash : List ℕ → Option (List ℕ)
before_slash [] = None
before_slash (b ∷ bs) = if nat_eq b 47 then Some [] else option_map (λ front. b ∷ front) (before_slash bs)

-- the dataset of a partition; one without a slash is of the dataset of no name
abbrev pub dataset_of : List ℕ → List ℕ
dataset_of part = unwrap_or (before_slash part) []

-- the table with one more unit in front of those of its dataset
abbrev pub with_unit_of : List ℕ → Judged → Table (List Judged) → Table (List Judged)
with_unit_of dataset j t = with_name t dataset (j ∷ unwrap_or (at_name t dataset) [])

-- the units of each dataset, in their order
abbrev pub by_dataset : List Judged → Table (List Judged)
by_dataset [] = []
by_dataset (j ∷ js) = with_unit_of (dataset_of j.0.part) j (by_dataset js)

-- the groups of units, each with its verdict, that are committed one after the other
unfoldable pub groups_of : CommitScope → List Judged → List (List Judged)
groups_of scope.Job all = all ∷ []
groups_of scope.Dataset all = map (λ e. e.1) (by_dataset all)

-- the group in which a unit is judged
abbrev pub group_of : CommitScope → List Judged → Judged → List Judged
group_of scope.Job all j = all
group_of scope.Dataset all j = filter (λ k. bytes_eq (dataset_of k.0.part) (dataset_of j.0.part)) all

-- the policy lets the unit be committed, as it judges its group
abbrev pub is_committed : CommitScope → CommitPolicy → List Judged → Judged → Bool
is_committed s policy all j = allows policy (map (λ k. k.1) (group_of s all j)) j.1
