-- Places change nothing of what a line makes but the folders.
use Rattle.std.proofs.Common.{◌≡◌, ℕ, ◌+◌, Bool, true, false, cond, not, ◌&&◌, ◌||◌, nat_eq, List, [], ◌∷◌, ◌++◌, map}
use Rattle.std.proofs.Common.{filter, refl, sym, ap, ◌∙◌, Some, None, Option}
use Rattle.std.specs.List.{list_any, enumerate_from}
use Rattle.std.specs.Option.{option_map}
use Rattle.gob_bytes.specs.Lines.{raw_of, text_of}
use Rattle.gob_convert.specs.Made.{Made, concatenation, made_each, then_each}
use Rattle.gob_plan.specs.declared.rows.Column.{Column}
use Rattle.gob_plan.specs.declared.rows.Row.{Row}
use Rattle.gob_plan.specs.declared.plan.PlaceSpec.TheVariants as place
use Rattle.gob_plan.specs.declared.plan.BranchSpec.{BranchSpec}
use Rattle.gob_plan.specs.declared.plan.Plan.{Plan}
use Rattle.gob_meaning.specs.Formats.{line_rows, record_of}
use Rattle.gob_meaning.specs.Steps.{columns_through, chain_rows}
use Rattle.gob_meaning.specs.Policies.{Ruling, pass, to_error, kill, ruling}
use Rattle.gob_meaning.specs.Fork.{picks, place_of}
use Rattle.gob_meaning.specs.Items.{RowMade, nothing, row_made_of, made_in_branch, made_in_branches, is_picked}
use Rattle.gob_meaning.specs.Items.{made_of_items, made_of_rows, line_made}
use Rattle.gob_meaning.specs.Laws.{without_places, outside_folders, PlacesAside}

-- an item in no folder, and items
abbrev outside : RowMade → RowMade
outside i = record i { place = [] }

abbrev all_outside : Made RowMade → Made RowMade
all_outside m = option_map (map outside) m

map-append : (xs ys : List RowMade) → map outside (xs ++ ys) ≡ map outside xs ++ map outside ys
map-append [] ys = refl
map-append (x ∷ xs) ys = ap (λ zs. outside x ∷ zs) (map-append xs ys)

outside-concatenation : (a b : Made RowMade) → all_outside (concatenation a b)
    ≡ concatenation (all_outside a) (all_outside b)
outside-concatenation None b = refl
outside-concatenation (Some xs) None = refl
outside-concatenation (Some xs) (Some ys) = ap Some (map-append xs ys)

-- what is made of each is made of each in no folder, where one is so
outside-each : {A : Type 0} (f g : A → Made RowMade) → ((x : A) → g x ≡ all_outside (f x)) → (xs : List A)
    → made_each g xs ≡ all_outside (made_each f xs)
outside-each f g one [] = refl
outside-each f g one (x ∷ xs) =
    rw (one x, outside-each f g one xs) (sym (outside-concatenation (f x) (made_each f xs)))

outside-then_each : {A : Type 0} (f g : A → Made RowMade) → ((x : A) → g x ≡ all_outside (f x)) → (m : Made A)
    → then_each g m ≡ all_outside (then_each f m)
outside-then_each f g one None = refl
outside-then_each f g one (Some xs) = outside-each f g one xs

outside_row : (b : ℕ) (folder : List ℕ) (r : Ruling × ℕ) (bytes : Option (List ℕ))
    → row_made_of b [] r bytes ≡ all_outside (row_made_of b folder r bytes)
outside_row b folder (kill k, n) bytes = refl
outside_row b folder (pass, n) None = refl
outside_row b folder (pass, n) (Some bytes) = refl
outside_row b folder (to_error k, n) None = refl
outside_row b folder (to_error k, n) (Some bytes) = refl

-- a branch that places nothing
abbrev plain : BranchSpec → BranchSpec
plain branch = record branch { place = place.Plain }

outside_branch : (branch : BranchSpec) (b : ℕ) (columns : List Column) (row : Row)
    → made_in_branch (plain branch) b columns row ≡ all_outside (made_in_branch branch b columns row)
unfolding made_in_branch place_of
outside_branch branch b columns row =
    let after = columns_through branch.steps columns in
    outside-then_each
    (λ q. row_made_of b (place_of branch.place after q) (ruling branch.policies after q)
    (record_of branch.format after q))
    (λ q. row_made_of b [] (ruling branch.policies after q) (record_of branch.format after q))
    (λ q. outside_row b (place_of branch.place after q) (ruling branch.policies after q)
    (record_of branch.format after q))
    (chain_rows branch.steps columns row)

-- the same where the branch takes the row, and where it doesn't
outside-cond : (t : Bool) (m n : Made RowMade) → n ≡ all_outside m → cond t n (Some [])
    ≡ all_outside (cond t m (Some []))
outside-cond true m n same = same
outside-cond false m n same = refl

-- the branches from a number on
outside_branches : (plan : Plan) (columns : List Column) (row : Row) (from : ℕ) (bs : List BranchSpec)
    → made_each (λ p. cond (picks plan.fork columns row p.0) (made_in_branch p.1 p.0 columns row) (Some []))
    (enumerate_from from (map plain bs))
    ≡ all_outside (made_each (λ p. cond (picks plan.fork columns row p.0) (made_in_branch p.1 p.0 columns row)
    (Some [])) (enumerate_from from bs))
outside_branches plan columns row from [] = refl
outside_branches plan columns row from (b ∷ bs) =
    let here = outside-cond (picks plan.fork columns row from) (made_in_branch b from columns row)
    (made_in_branch (plain b) from columns row)
    (outside_branch b from columns row) in
    rw (here, outside_branches plan columns row (from + 1) bs) (sym (outside-concatenation
    (cond (picks plan.fork columns row from) (made_in_branch b from columns row) (Some []))
    (made_each (λ p. cond (picks plan.fork columns row p.0) (made_in_branch p.1 p.0 columns row) (Some []))
    (enumerate_from (from + 1) bs))))

outside_rows : (plan : Plan) (columns : List Column) (row : Row)
    → made_in_branches (without_places plan) columns row ≡ all_outside (made_in_branches plan columns row)
outside_rows plan columns row = outside_branches plan columns row 0 plan.branches

-- the same branches take a row
picked_from : (plan : Plan) (columns : List Column) (row : Row) (from : ℕ) (bs : List BranchSpec)
    → list_any (λ p. picks plan.fork columns row p.0) (enumerate_from from (map plain bs))
    ≡ list_any (λ p. picks plan.fork columns row p.0) (enumerate_from from bs)
picked_from plan columns row from [] = refl
picked_from plan columns row from (b ∷ bs) = ap (λ later. picks plan.fork columns row from || later)
    (picked_from plan columns row (from + 1) bs)

filter_same : (p q : Row → Bool) → ((r : Row) → p r ≡ q r) → (rows : List Row) → filter p rows ≡ filter q rows
filter_same p q same [] = refl
filter_same p q same (r ∷ rows) = rw (same r, filter_same p q same rows) refl

unpicked : (plan : Plan) (columns : List Column) (rows : List Row)
    → filter (λ r. not (is_picked (without_places plan) columns r)) rows
    ≡ filter (λ r. not (is_picked plan columns r)) rows
unpicked plan columns rows =
    filter_same (λ r. not (is_picked (without_places plan) columns r)) (λ r. not (is_picked plan columns r))
    (λ r. ap not (picked_from plan columns r 0 plan.branches)) rows

outside_items : (plan : Plan) (columns : List Column) (raw : List ℕ) (rows : List Row) (m : Made RowMade)
    → made_of_items (without_places plan) columns raw rows (all_outside m)
    ≡ outside_folders (made_of_items plan columns raw rows m)
outside_items plan columns raw rows None = refl
outside_items plan columns raw rows (Some items) = rw (unpicked plan columns rows) refl

outside_made : (plan : Plan) (columns : List Column) (raw : List ℕ) (m : Made Row)
    → made_of_rows (without_places plan) columns raw m ≡ outside_folders (made_of_rows plan columns raw m)
outside_made plan columns raw None = refl
outside_made plan columns raw (Some rows) =
    ap (made_of_items (without_places plan) columns raw rows)
    (outside-each (made_in_branches plan columns) (made_in_branches (without_places plan) columns)
    (outside_rows plan columns) rows)
    ∙ outside_items plan columns raw rows (made_each (made_in_branches plan columns) rows)

pub places_aside : (plan : Plan) → PlacesAside plan
unfolding line_made
places_aside plan offset l =
    let columns = columns_through plan.steps plan.columns in
    let rows = then_each (chain_rows plan.steps plan.columns) (line_rows plan.format plan.columns (text_of l)) in
    elim (plan.skip_header && nat_eq offset 0) as (λ t.
    cond t nothing (made_of_rows (without_places plan) columns (raw_of l) rows)
    ≡ outside_folders (cond t nothing (made_of_rows plan columns (raw_of l) rows))) [
      | true ↦ refl
      | false ↦ outside_made plan columns (raw_of l) rows
    ]
