-- What a unit sends goes to targets that a file's name can have.
use Rattle.std.proofs.Common.{◌≡◌, ◌≢◌, ℕ, ◌+◌, ◌<◌, ◌≤◌, ◌^◌, Bool, true, false, cond, ◌&&◌, nat_eq, nat_lt, nat_le}
use Rattle.std.proofs.Common.{◌/◌, pos, negsuc, List, [], ◌∷◌, ◌++◌, length, map, refl, sym, subst, Some, None, arith}
use Rattle.std.specs.List.{list_all, enumerate_from, flat_map}
use Rattle.std.specs.Str.{bytes_eq}
use Rattle.std.proofs.lemmas.Bool.{cond_both, and_parts, and_from, eqb-true, lt-ltb, ltb-true}
use Rattle.std.proofs.lemmas.Slice.Eq.{bytes_eq-Decides}
use Rattle.gob_bytes.specs.Digits.{padded_digits}
use Rattle.gob_bytes.specs.Lines.{Line, lines, raw_of, text_of}
use Rattle.gob_convert.specs.Made.{Made, concatenation, made_each, then_each, all_made}
use Rattle.gob_plan.specs.Rows.{value_of}
use Rattle.gob_plan.specs.declared.rows.Value.{Value}
use Rattle.gob_plan.specs.declared.rows.Value.TheVariants as value
use Rattle.gob_plan.specs.declared.rows.Column.{Column}
use Rattle.gob_plan.specs.declared.rows.Row.{Row}
use Rattle.gob_plan.specs.declared.plan.BranchSpec.{BranchSpec}
use Rattle.gob_plan.specs.declared.plan.PlaceSpec.{PlaceSpec}
use Rattle.gob_plan.specs.declared.plan.PlaceSpec.TheVariants as place
use Rattle.gob_plan.specs.declared.plan.Plan.{Plan}
use Rattle.gob_meaning.specs.Formats.{line_rows, record_of}
use Rattle.gob_meaning.specs.Steps.{columns_through, chain_rows}
use Rattle.gob_meaning.specs.Policies.{Ruling, pass, to_error, kill, ruling}
use Rattle.gob_meaning.specs.Days.{Date, date_of, date_folder, day_folder, last_second, no_day}
use Rattle.gob_meaning.specs.Fork.{picks, place_of}
use Rattle.gob_meaning.specs.Items.{Target, out, err, bad, End, written, error, killed, RowMade, nothing, row_made_of}
use Rattle.gob_meaning.specs.Items.{made_in_branch, made_in_branches, made_of_items, made_of_rows, line_made}
use Rattle.gob_meaning.specs.Fold.{folded_line, unit_fold, Delivery, delivery_of, line_deliveries, deliveries_of}
use Rattle.gob_meaning.specs.Fold.{same_target, sent_to}
use Rattle.gob_meaning.specs.Laws.{is_folder, IsPlaced}

-- an item whose branch is one of these and whose place is a folder
abbrev is_placed_item : ℕ → RowMade → Bool
is_placed_item branches i = nat_lt i.branch branches && is_folder i.place

abbrev Placed : ℕ → Made RowMade → Type 0
Placed branches m = all_made (is_placed_item branches) m ≡ true

all_append : {A : Type 0} (p : A → Bool) (xs ys : List A) → list_all p xs ≡ true → list_all p ys ≡ true
    → list_all p (xs ++ ys) ≡ true
all_append p [] ys a b = b
all_append p (x ∷ xs) ys a b = let q = and_parts (p x) (list_all p xs) a in and_from _ _ q.0 (all_append p xs ys q.1 b)

joined_placed : (n : ℕ) (a b : Made RowMade) → Placed n a → Placed n b → Placed n (concatenation a b)
joined_placed n None b x y = refl
joined_placed n (Some xs) None x y = refl
joined_placed n (Some xs) (Some ys) x y = all_append (is_placed_item n) xs ys x y

each_placed : {A : Type 0} (n : ℕ) (f : A → Made RowMade) → ((x : A) → Placed n (f x)) → (xs : List A)
    → Placed n (made_each f xs)
each_placed n f each [] = refl
each_placed n f each (x ∷ xs) = joined_placed n (f x) (made_each f xs) (each x) (each_placed n f each xs)

then_placed : {A : Type 0} (n : ℕ) (f : A → Made RowMade) → ((x : A) → Placed n (f x)) → (m : Made A)
    → Placed n (then_each f m)
then_placed n f each None = refl
then_placed n f each (Some xs) = each_placed n f each xs

-- a list that ends in a '/' is a folder
folder_push : (x : List ℕ) → is_folder (x ++ 47 ∷ []) ≡ true
folder_push [] = refl
folder_push (a ∷ []) = refl
folder_push (a ∷ b ∷ x) = folder_push (b ∷ x)

date_placed : (date : Date) → is_folder (date_folder date) ≡ true
date_placed date = folder_push (padded_digits 4 date.year ++ 47 ∷ padded_digits 2 date.month ++ 47
    ∷ padded_digits 2 date.day)

day_placed : (v : Value) → is_folder (day_folder v) ≡ true
day_placed value.Null = refl
day_placed (value.Bool b) = refl
day_placed (value.Text t) = refl
day_placed (value.Int (negsuc n)) = refl
day_placed (value.Int (pos n)) =
    cond_both (nat_le n last_second) (date_folder (date_of (n / 86400))) no_day (λ folder. is_folder folder ≡ true)
    (λ _. date_placed (date_of (n / 86400))) (λ _. refl)

-- each place is a folder
pub folder_placed : (spec : PlaceSpec) (columns : List Column) (row : Row) → is_folder (place_of spec columns row)
    ≡ true
unfolding place_of
folder_placed place.Plain columns row = refl
folder_placed (place.Day column) columns row = day_placed (value_of column columns row.values)

one_placed : (n b : ℕ) (folder : List ℕ) (r : Ruling × ℕ) (bytes : Made ℕ) → nat_lt b n ≡ true → is_folder folder
    ≡ true → Placed n (row_made_of b folder r bytes)
one_placed n b folder (kill k, m) bytes x y = and_from _ _ (and_from _ _ x y) refl
one_placed n b folder (pass, m) None x y = refl
one_placed n b folder (pass, m) (Some bytes) x y = and_from _ _ (and_from _ _ x y) refl
one_placed n b folder (to_error k, m) None x y = refl
one_placed n b folder (to_error k, m) (Some bytes) x y = and_from _ _ (and_from _ _ x y) refl

branch_placed : (n : ℕ) (branch : BranchSpec) (b : ℕ) (columns : List Column) (row : Row) → nat_lt b n ≡ true
    → Placed n (made_in_branch branch b columns row)
unfolding made_in_branch
branch_placed n branch b columns row below =
    let after = columns_through branch.steps columns in
    then_placed n (λ q. row_made_of b (place_of branch.place after q) (ruling branch.policies after q)
    (record_of branch.format after q))
    (λ q. one_placed n b (place_of branch.place after q) (ruling branch.policies after q)
    (record_of branch.format after q) below (folder_placed branch.place after q))
    (chain_rows branch.steps columns row)

cond_placed : (n : ℕ) (b : Bool) (m : Made RowMade) → Placed n m → Placed n (cond b m (Some []))
cond_placed n true m p = p
cond_placed n false m p = refl

-- the branches from a number on
branches_placed : (plan : Plan) (columns : List Column) (row : Row) (from n : ℕ) (bs : List BranchSpec)
    → from + length bs ≡ n
    → Placed n (made_each (λ p. cond (picks plan.fork columns row p.0) (made_in_branch p.1 p.0 columns row) (Some []))
    (enumerate_from from bs))
branches_placed plan columns row from n [] e = refl
branches_placed plan columns row from n (b ∷ bs) e =
    joined_placed n (cond (picks plan.fork columns row from) (made_in_branch b from columns row) (Some [])) _
    (cond_placed n (picks plan.fork columns row from) (made_in_branch b from columns row)
    (branch_placed n b from columns row (lt-ltb from n (omega (arith, e)))))
    (branches_placed plan columns row (from + 1) n bs (omega (arith, e)))

rows_placed : (plan : Plan) (columns : List Column) (row : Row)
    → Placed (length plan.branches) (made_in_branches plan columns row)
rows_placed plan columns row = branches_placed plan columns row 0 (length plan.branches) plan.branches (omega arith)

-- a piece whose target a file's name can have
abbrev AllPlaced : List Delivery → Type 0
AllPlaced [] = Unit {0}
AllPlaced (p ∷ ps) = IsPlaced p.target × AllPlaced ps

placed_append : (ps qs : List Delivery) → AllPlaced ps → AllPlaced qs → AllPlaced (ps ++ qs)
placed_append [] qs a b = b
placed_append (p ∷ ps) qs a b = (a.0, placed_append ps qs a.1 b)

item_pieces : (n : ℕ) (i : RowMade) → n ≤ 2 ^ 64 → is_placed_item n i ≡ true → AllPlaced (delivery_of i)
item_pieces n i few placed = cases i.end
  where
    parts : (nat_lt i.branch n ≡ true) × (is_folder i.place ≡ true)
    parts = and_parts (nat_lt i.branch n) (is_folder i.place) placed

    small : i.branch < 2 ^ 64
    small = let below : i.branch < n = ltb-true i.branch n parts.0 in omega (arith, below, few)

    cases : (e : End) → AllPlaced (delivery_of (record i { end = e }))
    cases (written bytes) = ((small, parts.1), tt)
    cases (error bytes) = ((small, parts.1), tt)
    cases (killed policy) = tt

items_pieces : (n : ℕ) (is : List RowMade) → n ≤ 2 ^ 64 → list_all (is_placed_item n) is ≡ true
    → AllPlaced (flat_map delivery_of is)
items_pieces n [] few placed = tt
items_pieces n (i ∷ is) few placed =
    let p = and_parts (is_placed_item n i) (list_all (is_placed_item n) is) placed in
    placed_append (delivery_of i) (flat_map delivery_of is) (item_pieces n i few p.0) (items_pieces n is few p.1)

made_pieces : (plan : Plan) (columns : List Column) (raw : List ℕ) (rows : List Row) (m : Made RowMade)
    → length plan.branches ≤ 2 ^ 64 → Placed (length plan.branches) m
    → AllPlaced (line_deliveries (made_of_items plan columns raw rows m))
made_pieces plan columns raw rows None few placed = (tt, tt)
made_pieces plan columns raw rows (Some items) few placed = items_pieces (length plan.branches) items few placed

row_pieces : (plan : Plan) (columns : List Column) (raw : List ℕ) (m : Made Row) → length plan.branches ≤ 2 ^ 64
    → AllPlaced (line_deliveries (made_of_rows plan columns raw m))
row_pieces plan columns raw None few = (tt, tt)
row_pieces plan columns raw (Some rows) few = made_pieces plan columns raw rows
    (made_each (made_in_branches plan columns) rows) few
    (each_placed (length plan.branches) (made_in_branches plan columns) (rows_placed plan columns) rows)

line_placed : (plan : Plan) (offset : ℕ) (l : Line) → length plan.branches ≤ 2 ^ 64
    → AllPlaced (line_deliveries (line_made plan offset l))
unfolding line_made
line_placed plan offset l few = elim (plan.skip_header && nat_eq offset 0) as
    (λ b. AllPlaced (line_deliveries (cond b nothing
    (made_of_rows plan (columns_through plan.steps plan.columns) (raw_of l)
    (then_each (chain_rows plan.steps plan.columns) (line_rows plan.format plan.columns (text_of l))))))) [
      | true ↦ tt
      | false ↦ row_pieces plan (columns_through plan.steps plan.columns) (raw_of l)
          (then_each (chain_rows plan.steps plan.columns) (line_rows plan.format plan.columns (text_of l))) few
    ]

lines_placed : (plan : Plan) (lo : ℕ) (ls : List Line) → length plan.branches ≤ 2 ^ 64
    → AllPlaced (deliveries_of (map (folded_line plan lo) ls))
lines_placed plan lo [] few = tt
lines_placed plan lo (l ∷ ls) few = placed_append (line_deliveries (line_made plan (lo + l.start) l))
    (deliveries_of (map (folded_line plan lo) ls)) (line_placed plan (lo + l.start) l few) (lines_placed plan lo ls few)

pub same_is : (t u : Target) → same_target t u ≡ true → t ≡ u
same_is (out b p) (out c q) e = let r = and_parts (nat_eq b c) (bytes_eq p q) e in λ i.
    out (eqb-true b c r.0 i) ((bytes_eq-Decides p q).0 r.1 i)
same_is (err b p) (err c q) e = let r = and_parts (nat_eq b c) (bytes_eq p q) e in λ i.
    err (eqb-true b c r.0 i) ((bytes_eq-Decides p q).0 r.1 i)
same_is bad bad e = refl
same_is (out b p) (err c q) e = absurd (let no : false ≡ true = e in cc)
same_is (out b p) bad e = absurd (let no : false ≡ true = e in cc)
same_is (err b p) (out c q) e = absurd (let no : false ≡ true = e in cc)
same_is (err b p) bad e = absurd (let no : false ≡ true = e in cc)
same_is bad (out c q) e = absurd (let no : false ≡ true = e in cc)
same_is bad (err c q) e = absurd (let no : false ≡ true = e in cc)

sent_placed : (t : Target) (ps : List Delivery) → AllPlaced ps → sent_to t ps ≢ [] → IsPlaced t
unfolding sent_to
sent_placed t [] placed some = absurd (some refl)
sent_placed t (p ∷ ps) placed some = cases (same_target t p.target) refl some (sent_placed t ps placed.1)
  where
    cases : (b : Bool) → same_target t p.target ≡ b → (cond b p.bytes [] ++ sent_to t ps ≢ [])
        → ((sent_to t ps ≢ []) → IsPlaced t) → IsPlaced t
    cases true is some later = subst IsPlaced (sym (same_is t p.target is)) placed.0
    cases false is some later = later some

-- a target that gets bytes is one that a file's name can have
pub sent_is_placed : (plan : Plan) (lo : ℕ) (bytes : List ℕ) (t : Target) → length plan.branches ≤ 2 ^ 64
    → sent_to t (deliveries_of (unit_fold plan lo bytes)) ≢ [] → IsPlaced t
unfolding unit_fold
sent_is_placed plan lo bytes t few some = sent_placed t (deliveries_of (map (folded_line plan lo) (lines bytes)))
    (lines_placed plan lo (lines bytes) few) some
