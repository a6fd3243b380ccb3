-- Groups as places in the list of a run's units.
use denote.Ref.{Bor}
use Rattle.std.specs.Prelude.{◌≡◌, ℕ, ◌+◌, Bool, ◌&&◌, not, if◌then◌else◌, List, [], ◌∷◌, map, slice_get, Vec}
use Rattle.std.specs.Global.{Global}
use Rattle.std.specs.declared.option.Option.{Option}
use Rattle.std.specs.declared.option.Option.TheVariants.{None, Some}
use Rattle.std.specs.BTreeMap.{BTreeMap, IsOrdered, get_by}
use Rattle.std.specs.HashSet.{HashSet, contains}
use Rattle.std.specs.Cmp.Lexicographic.{slice_cmp}
use Rattle.std.specs.Ordering.{nat_cmp}
use Rattle.std.specs.List.{Contains, flat_map, list_any}
use Rattle.std.specs.Option.{option_map, option_to_list}
use Rattle.std.specs.Str.{bytes_eq}
use Rattle.gob_plan.specs.declared.plan.CommitScope.TheVariants as scope
use Rattle.gob_plan.specs.declared.units.Unit.{Unit as WorkUnit}
use Rattle.gob_ledger.specs.Groups.{dataset_of, groups_of}
use Rattle.gob_ledger.specs.Next.{Judged, is_good}

-- the places of a dataset's units, where the first of these has this place
abbrev pub places_from : ℕ → List ℕ → List WorkUnit → List ℕ
places_from n dataset [] = []
places_from n dataset (u ∷ us) =
    if bytes_eq dataset (dataset_of u.part)
    then n ∷ places_from (n + 1) dataset us
    else places_from (n + 1) dataset us

-- what stands at these places
abbrev pub picked_items : {X : Type 0} → List X → List ℕ → List X
picked_items xs places = flat_map (λ p. option_to_list (slice_get xs p)) places

-- these are the places of the units of each dataset, in byte order of datasets
pub record ArePlaces (units : List WorkUnit) (groups : List (List ℕ)) : Type 0 where
  pub each : (places : List ℕ) → Contains groups places → (dataset : List ℕ) × (places ≡ places_from 0 dataset units)
  pub all : (js : List Judged) → map (λ j. j.0) js ≡ units → map (picked_items js) groups ≡ groups_of scope.Dataset js

-- the list, where it has a member
abbrev pub some_of : {X : Type 0} → List X → Option (List X)
some_of [] = None
some_of (x ∷ xs) = Some (x ∷ xs)

-- the map has the places of each dataset's units
pub record PlacesAre (units : List WorkUnit) (m : BTreeMap (Bor (List ℕ)) (Vec ℕ Global)) : Type 0 where
  pub ordered : IsOrdered (λ x y. slice_cmp nat_cmp x.now y.now) m
  pub at : (q : List ℕ) → option_map (λ places. places.items) (get_by (λ k. slice_cmp nat_cmp q k.now) m)
      ≡ some_of (places_from 0 q units)

-- a unit of this dataset that isn't good
abbrev pub is_bad_unit : List ℕ → Judged → Bool
is_bad_unit dataset j = bytes_eq dataset (dataset_of j.0.part) && not (is_good j.1)

-- the set has the datasets with a unit that isn't good
abbrev pub BadAre : {S : Type 0} → List Judged → HashSet (Bor (List ℕ)) S → Type 0
BadAre js bad = (q : Bor (List ℕ)) → contains (λ a b. bytes_eq a.now b.now) bad q ≡ list_any (is_bad_unit q.now) js
