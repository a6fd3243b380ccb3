-- The items of a line have branches that are there, and places that a name can have.
use Rattle.std.proofs.Common.{◌≡◌, ℕ, zero, suc, ◌+◌, ◌*◌, ◌<◌, ◌≤◌, Bool, true, false, cond, not, ◌&&◌, nat_eq, nat_lt}
use Rattle.std.proofs.Common.{List, [], ◌∷◌, ◌++◌}
use Rattle.std.proofs.Common.{length, get_or, take, map, flat_map, refl, sym, ap, ap₂, ◌∙◌, subst, arith, add-one}
use Rattle.std.proofs.Common.{append-nil, append_assoc}
use Rattle.std.proofs.Common.{None, Some}
use Rattle.std.proofs.lemmas.Bool.{and_parts, and_from, lt-ltb}
use Rattle.std.proofs.lemmas.List.Folds.{list_all-append}
use Rattle.std.specs.List.{list_all, slice_get, enumerate_from}
use Rattle.gob_bytes.specs.Lines.{Line, raw_of, text_of}
use Rattle.gob_convert.specs.Made.{Made, concatenation, made_each, then_each, all_made}
use Rattle.gob_plan.specs.declared.rows.Column.{Column}
use Rattle.gob_plan.specs.declared.rows.Row.{Row}
use Rattle.gob_plan.specs.declared.plan.PlaceSpec.{PlaceSpec}
use Rattle.gob_plan.specs.declared.plan.PlaceSpec.TheVariants as place
use Rattle.gob_plan.specs.declared.plan.BranchSpec.{BranchSpec}
use Rattle.gob_plan.specs.declared.plan.Plan.{Plan}
use Rattle.gob_plan.specs.Rows.{value_of}
use Rattle.gob_meaning.specs.Formats.{line_rows, record_of}
use Rattle.gob_meaning.specs.Steps.{columns_through, chain_rows}
use Rattle.gob_meaning.specs.Policies.{Ruling, pass, to_error, kill, ruling}
use Rattle.gob_meaning.specs.Fork.{picks, place_of}
use Rattle.gob_meaning.specs.Items.{RowMade, LineMade, nothing, row_made_of, made_in_branch, made_in_branches}
use Rattle.gob_meaning.specs.Items.{made_of_items}
use Rattle.gob_meaning.specs.Items.{made_of_rows, line_made}
use Rattle.gob_meaning.specs.Fold.{items_in, delivery_of, Delivery}
use Rattle.gob_meaning.proofs.Placed.{folder_placed}
use Rattle.gob_branch.proofs.Days.{folder_bytes}
use Rattle.gob_pipeline.specs.Made.{is_place, is_place_byte}
use Rattle.gob_pipeline.specs.Taking.{item_fits}

-- ---- one of a list

pub got : {A : Type 0} (xs : List A) (i : ℕ) (x : A) → slice_get xs i ≡ Some x → x ≡ get_or xs i x
got [] i x e = absurd (cc)
got (y ∷ ys) zero x e = cc
got (y ∷ ys) (suc i) x e = got ys i x e

pub passes_at : {A : Type 0} (p : A → Bool) (xs : List A) (i : ℕ) (x : A) → list_all p xs ≡ true
    → slice_get xs i ≡ Some x → p x ≡ true
passes_at p [] i x all e = absurd (cc)
passes_at p (y ∷ ys) zero x all e = let same : y ≡ x = cc in
    ap p (sym same) ∙ (and_parts (p y) (list_all p ys) all).0
passes_at p (y ∷ ys) (suc i) x all e = passes_at p ys i x (and_parts (p y) (list_all p ys) all).1 e

pub flat_more : {A B : Type 0} (f : A → List B) (xs : List A) (i : ℕ) (x : A) → slice_get xs i ≡ Some x
    → flat_map f (take i xs) ++ f x ≡ flat_map f (take (i + 1) xs)
flat_more f xs i x e = rw add-one (more xs i e)
  where
    more : (ys : List _) (j : ℕ) → slice_get ys j ≡ Some x → flat_map f (take j ys)
        ++ f x ≡ flat_map f (take (suc j) ys)
    more [] j h = absurd (cc)
    more (y ∷ ys) zero h = let same : y ≡ x = cc in ap f (sym same) ∙ sym (append-nil (f y))
    more (y ∷ ys) (suc j) h = append_assoc (f y) (flat_map f (take j ys)) (f x) ∙ ap (λ l. f y ++ l) (more ys j h)

-- ---- items that fit

abbrev Fit : ℕ → Made RowMade → Type 0
Fit slots m = all_made (item_fits slots) m ≡ true

joined_fit : (n : ℕ) (a b : Made RowMade) → Fit n a → Fit n b → Fit n (concatenation a b)
joined_fit n None b x y = refl
joined_fit n (Some xs) None x y = refl
joined_fit n (Some xs) (Some ys) x y = list_all-append (item_fits n) xs ys ∙ and_from _ _ x y

each_fit : {A : Type 0} (n : ℕ) (f : A → Made RowMade) → ((x : A) → Fit n (f x)) → (xs : List A)
    → Fit n (made_each f xs)
each_fit n f each [] = refl
each_fit n f each (x ∷ xs) = joined_fit n (f x) (made_each f xs) (each x) (each_fit n f each xs)

then_fit : {A : Type 0} (n : ℕ) (f : A → Made RowMade) → ((x : A) → Fit n (f x)) → (m : Made A) → Fit n (then_each f m)
then_fit n f each None = refl
then_fit n f each (Some xs) = each_fit n f each xs

place_bytes : (spec : PlaceSpec) (columns : List Column) (row : Row)
    → list_all is_place_byte (place_of spec columns row) ≡ true
unfolding place_of
place_bytes place.Plain columns row = refl
place_bytes (place.Day column) columns row = folder_bytes (value_of column columns row.values)

place_fits : (spec : PlaceSpec) (columns : List Column) (row : Row) → is_place (place_of spec columns row) ≡ true
place_fits spec columns row = and_from _ _ (folder_placed spec columns row) (place_bytes spec columns row)

one_fits : (n b : ℕ) (folder : List ℕ) (r : Ruling × ℕ) (bytes : Made ℕ) → nat_lt (2 * b + 2) n ≡ true
    → is_place folder ≡ true → Fit n (row_made_of b folder r bytes)
one_fits n b folder (kill k, m) bytes x y = and_from _ _ (and_from _ _ x y) refl
one_fits n b folder (pass, m) None x y = refl
one_fits n b folder (pass, m) (Some bytes) x y = and_from _ _ (and_from _ _ x y) refl
one_fits n b folder (to_error k, m) None x y = refl
one_fits n b folder (to_error k, m) (Some bytes) x y = and_from _ _ (and_from _ _ x y) refl

branch_fit : (n : ℕ) (branch : BranchSpec) (b : ℕ) (columns : List Column) (row : Row) → nat_lt (2 * b + 2) n ≡ true
    → Fit n (made_in_branch branch b columns row)
unfolding made_in_branch
branch_fit n branch b columns row below =
    let after = columns_through branch.steps columns in
    then_fit n (λ q. row_made_of b (place_of branch.place after q) (ruling branch.policies after q)
    (record_of branch.format after q))
    (λ q. one_fits n b (place_of branch.place after q) (ruling branch.policies after q)
    (record_of branch.format after q) below (place_fits branch.place after q))
    (chain_rows branch.steps columns row)

cond_fit : (n : ℕ) (b : Bool) (m : Made RowMade) → Fit n m → Fit n (cond b m (Some []))
cond_fit n true m p = p
cond_fit n false m p = refl

branches_fit_from : (plan : Plan) (columns : List Column) (row : Row) (from n : ℕ) (bs : List BranchSpec)
    → n ≡ 2 * (from + length bs) + 1
    → Fit n (made_each (λ p. cond (picks plan.fork columns row p.0) (made_in_branch p.1 p.0 columns row) (Some []))
    (enumerate_from from bs))
branches_fit_from plan columns row from n [] e = refl
branches_fit_from plan columns row from n (b ∷ bs) e =
    joined_fit n (cond (picks plan.fork columns row from) (made_in_branch b from columns row) (Some [])) _
    (cond_fit n (picks plan.fork columns row from) (made_in_branch b from columns row)
    (branch_fit n b from columns row (lt-ltb (2 * from + 2) n (omega (arith, e)))))
    (branches_fit_from plan columns row (from + 1) n bs (omega (arith, e)))

rows_fit : (plan : Plan) (columns : List Column) (row : Row)
    → Fit (2 * length plan.branches + 1) (made_in_branches plan columns row)
rows_fit plan columns row = branches_fit_from plan columns row 0 (2 * length plan.branches + 1) plan.branches
    (omega arith)

made_fit : (plan : Plan) (columns : List Column) (raw : List ℕ) (rows : List Row) (n : ℕ) (m : Made RowMade) → Fit n m
    → list_all (item_fits n) (items_in (made_of_items plan columns raw rows m)) ≡ true
made_fit plan columns raw rows n None fit = refl
made_fit plan columns raw rows n (Some items) fit = fit

all_rows_fit : (plan : Plan) (columns : List Column) (raw : List ℕ) (m : Made Row)
    → list_all (item_fits (2 * length plan.branches + 1)) (items_in (made_of_rows plan columns raw m)) ≡ true
all_rows_fit plan columns raw None = refl
all_rows_fit plan columns raw (Some rows) =
    let n = 2 * length plan.branches + 1 in
    made_fit plan columns raw rows n (made_each (made_in_branches plan columns) rows)
    (each_fit n (made_in_branches plan columns) (rows_fit plan columns) rows)

pub items_fit : (plan : Plan) (offset : ℕ) (l : Line)
    → list_all (item_fits (2 * length plan.branches + 1)) (items_in (line_made plan offset l)) ≡ true
unfolding line_made
items_fit plan offset l =
    let n = 2 * length plan.branches + 1 in
    elim (plan.skip_header && nat_eq offset 0) as
    (λ b. list_all (item_fits n) (items_in (cond b nothing
    (made_of_rows plan (columns_through plan.steps plan.columns) (raw_of l)
    (then_each (chain_rows plan.steps plan.columns) (line_rows plan.format plan.columns (text_of l)))))) ≡ true) [
      | true ↦ refl
      | false ↦ all_rows_fit plan (columns_through plan.steps plan.columns) (raw_of l)
          (then_each (chain_rows plan.steps plan.columns) (line_rows plan.format plan.columns (text_of l)))
    ]
