-- What branches count of a line's items.
use Rattle.std.proofs.Common.{◌≡◌, ℕ, zero, suc, ◌+◌, ◌-◌, ◌<◌, ◌≤◌, ◌^◌, min, Bool, true, false, cond, nat_eq, List}
use Rattle.std.proofs.Common.{[], ◌∷◌, ◌++◌}
use Rattle.std.proofs.Common.{length, map, filter, get_or, set, drop, refl, sym, ap, ap₂, ◌∙◌, subst, arith, add-one}
use Rattle.std.proofs.Common.{append-nil, count_by, sum_by}
use Rattle.std.proofs.lemmas.Bool.{cond-true, cond-false}
use Rattle.std.proofs.lemmas.List.{drop_all}
use Rattle.std.proofs.lemmas.List.Sums.{sum_by-cons}
use Rattle.std.proofs.Math.Seq.{drop-cons}
use Rattle.std.specs.List.{range_with_len}
use Rattle.gob_plan.specs.declared.units.BranchCounts.{BranchCounts}
use Rattle.gob_meaning.specs.Items.{RowMade, LineMade}
use Rattle.gob_meaning.specs.Fold.{saturate_u64, is_written, is_error, branch_counts, in_branch, items_in}
use Rattle.gob_plan.specs.declared.units.Counts.{Counts}
use Rattle.gob_meaning.specs.Fold.{is_record, is_bad, rows_in, unrouted_in}
use Rattle.gob_meaning.specs.Sums.{both_branches, branch_sums, sum_of}
use Rattle.gob_pipeline.specs.Taking.{counts_of_line, fold_of_items, with_one_item, line_folds, line_of_end}
use Rattle.gob_pipeline.specs.declared.pipeline.LineEnd.{LineEnd}
use Rattle.gob_pipeline.specs.declared.pipeline.LineEnd.TheVariants as end
use Rattle.gob_branch.proofs.Joined.{goes_on}

abbrev pub of_branch : ℕ → List RowMade → List RowMade
of_branch b items = filter (λ i. nat_eq i.branch b) items

abbrev written_in : List RowMade → ℕ
written_in items = count_by (λ i. is_written i.end) items

abbrev errors_in : List RowMade → ℕ
errors_in items = count_by (λ i. is_error i.end) items

abbrev optional_in : List RowMade → ℕ
optional_in items = sum_by (λ i. i.optional) items

-- so much was counted, and with the items that are left it is what all count
pub record Counting (made : BranchCounts) (b : ℕ) (rest all : List RowMade) : Type 0 where
  pub written : saturate_u64 (made.written + written_in (of_branch b rest)) ≡ saturate_u64
      (written_in (of_branch b all))
  pub errors : saturate_u64 (made.errors + errors_in (of_branch b rest)) ≡ saturate_u64 (errors_in (of_branch b all))
  pub optional : saturate_u64 (made.optional + optional_in (of_branch b rest))
      ≡ saturate_u64 (optional_in (of_branch b all))

abbrev pub none_made : BranchCounts
none_made = record { written = 0; errors = 0; optional = 0 }

from_zero : (n : ℕ) → saturate_u64 (0 + n) ≡ saturate_u64 n
from_zero n = let e : 0 + n ≡ n = omega arith in ap saturate_u64 e

pub counting_starts : (b : ℕ) (all : List RowMade) → Counting none_made b all all
counting_starts b all = record {
  written = from_zero (written_in (of_branch b all));
  errors = from_zero (errors_in (of_branch b all));
  optional = from_zero (optional_in (of_branch b all));
}

saturates : (w k r n : ℕ) → n ≡ k + r → saturate_u64 (saturate_u64 (w + k) + r) ≡ saturate_u64 (w + n)
saturates w k r n e = omega (arith, e)

counting_cons : (made : BranchCounts) (b : ℕ) (x : RowMade) (rest all : List RowMade)
    → of_branch b (x ∷ rest) ≡ x ∷ of_branch b rest → Counting made b (x ∷ rest) all
    → Counting (with_one_item made x) b rest all
counting_cons made b x rest all e c = record {
  written = saturates made.written _ (written_in (of_branch b rest)) (written_in (of_branch b (x ∷ rest)))
      (ap written_in e ∙ sum_by-cons _ x (of_branch b rest)) ∙ c.written;
  errors = saturates made.errors _ (errors_in (of_branch b rest)) (errors_in (of_branch b (x ∷ rest)))
      (ap errors_in e ∙ sum_by-cons _ x (of_branch b rest)) ∙ c.errors;
  optional = saturates made.optional _ (optional_in (of_branch b rest)) (optional_in (of_branch b (x ∷ rest)))
      (ap optional_in e ∙ sum_by-cons _ x (of_branch b rest)) ∙ c.optional;
}

-- an item of the branch
pub counting_on : (made : BranchCounts) (b : ℕ) (items : List RowMade) (i : ℕ) (x : RowMade) → i < length items
    → x ≡ get_or items i x → nat_eq x.branch b ≡ true → Counting made b (drop i items) items
    → Counting (with_one_item made x) b (drop (i + 1) items) items
counting_on made b items i x lt is here c =
    counting_cons made b x (drop (i + 1) items) items (cond-true _ _ _ here)
    (subst (λ rest. Counting made b rest items) (goes_on items i x lt is) c)

-- an item of another one
pub counting_past : (made : BranchCounts) (b : ℕ) (items : List RowMade) (i : ℕ) (x : RowMade) → i < length items
    → x ≡ get_or items i x → nat_eq x.branch b ≡ false → Counting made b (drop i items) items
    → Counting made b (drop (i + 1) items) items
counting_past made b items i x lt is other c =
    let rest = drop (i + 1) items in
    let same : of_branch b (drop i items) ≡ of_branch b rest =
    ap (of_branch b) (goes_on items i x lt is) ∙ cond-false _ _ _ other in
    record {
      written = ap (λ l. saturate_u64 (made.written + written_in l)) (sym same) ∙ c.written;
      errors = ap (λ l. saturate_u64 (made.errors + errors_in l)) (sym same) ∙ c.errors;
      optional = ap (λ l. saturate_u64 (made.optional + optional_in l)) (sym same) ∙ c.optional;
    }

added : (before made counted : ℕ) → saturate_u64 (made + 0) ≡ saturate_u64 counted
    → saturate_u64 (before + made) ≡ saturate_u64 (before + saturate_u64 counted)
added before made counted e = omega (arith, e)

-- all items
pub counting_done : (before made : BranchCounts) (b : ℕ) (items : List RowMade) (i : ℕ) → length items ≤ i
    → Counting made b (drop i items) items
    → record {
      written = saturate_u64 (before.written + made.written);
      errors = saturate_u64 (before.errors + made.errors);
      optional = saturate_u64 (before.optional + made.optional);
    } ≡ both_branches before (branch_counts (fold_of_items items) b)
counting_done before made b items i over c =
    let none : of_branch b (drop i items) ≡ [] = ap (of_branch b) (drop_all i items over) in
    let whole : in_branch b (fold_of_items items) ≡ of_branch b items = ap (of_branch b) (append-nil items) in
    let w = added before.written made.written (written_in (of_branch b items))
    (ap (λ l. saturate_u64 (made.written + written_in l)) (sym none) ∙ c.written)
    ∙ ap (λ l. saturate_u64 (before.written + saturate_u64 (written_in l))) (sym whole) in
    let e = added before.errors made.errors (errors_in (of_branch b items))
    (ap (λ l. saturate_u64 (made.errors + errors_in l)) (sym none) ∙ c.errors)
    ∙ ap (λ l. saturate_u64 (before.errors + saturate_u64 (errors_in l))) (sym whole) in
    let o = added before.optional made.optional (optional_in (of_branch b items))
    (ap (λ l. saturate_u64 (made.optional + optional_in l)) (sym none) ∙ c.optional)
    ∙ ap (λ l. saturate_u64 (before.optional + saturate_u64 (optional_in l))) (sym whole) in
    λ k. record { written = w k; errors = e k; optional = o k }

-- ---- branch by branch

-- the first so many branches have what the items add to them
abbrev pub sums_to : (ℕ → BranchCounts) → ℕ → ℕ → List BranchCounts → List BranchCounts
sums_to g start zero bs = bs
sums_to g start (suc n) [] = []
sums_to g start (suc n) (b ∷ bs) = both_branches b (g start) ∷ sums_to g (start + 1) n bs

pub sums_kept : (g : ℕ → BranchCounts) (start n : ℕ) (bs : List BranchCounts) (d : BranchCounts) → n < length bs
    → get_or (sums_to g start n bs) n d ≡ get_or bs n d
sums_kept g start zero bs d lt = refl
sums_kept g start (suc n) [] d lt = absurd (omega arith)
sums_kept g start (suc n) (b ∷ bs) d lt = sums_kept g (start + 1) n bs d (omega arith)

sums_more : (g : ℕ → BranchCounts) (start n k : ℕ) (bs : List BranchCounts) (d : BranchCounts) → n < length bs
    → k ≡ start + n → set (sums_to g start n bs) n (both_branches (get_or bs n d) (g k)) ≡ sums_to g start (suc n) bs
sums_more g start zero k [] d lt e = absurd (omega arith)
sums_more g start zero k (b ∷ bs) d lt e =
    let same : k ≡ start = omega arith in ap (λ j. both_branches b (g j) ∷ bs) same
sums_more g start (suc n) k [] d lt e = absurd (omega arith)
sums_more g start (suc n) k (b ∷ bs) d lt e =
    ap (λ l. both_branches b (g start) ∷ l) (sums_more g (start + 1) n k bs d (omega arith) (omega arith))

pub sums_length : (g : ℕ → BranchCounts) (start n : ℕ) (bs : List BranchCounts)
    → length (sums_to g start n bs) ≡ length bs
sums_length g start zero bs = refl
sums_length g start (suc n) [] = refl
sums_length g start (suc n) (b ∷ bs) = ap suc (sums_length g (start + 1) n bs)

-- one branch more
pub sums_on : (g : ℕ → BranchCounts) (n : ℕ) (bs now : List BranchCounts) (d : BranchCounts) (sum : BranchCounts)
    → now ≡ sums_to g 0 n bs → n < length now → sum ≡ both_branches (get_or now n d) (g n)
    → set now n sum ≡ sums_to g 0 (n + 1) bs
sums_on g n bs now d sum is lt sum_is =
    let short : n < length bs = subst (λ k. n < k) (ap length is ∙ sums_length g 0 n bs) lt in
    let same : get_or now n d ≡ get_or bs n d = ap (λ l. get_or l n d) is ∙ sums_kept g 0 n bs d short in
    rw add-one
    (ap₂ (λ l (c : BranchCounts). set l n c) is (sum_is ∙ ap (λ c. both_branches c (g n)) same)
    ∙ sums_more g 0 n n bs d short (omega arith))

pub sums_all : (g : ℕ → BranchCounts) (start : ℕ) (bs : List BranchCounts)
    → sums_to g start (length bs) bs ≡ branch_sums bs (map g (range_with_len start (length bs)))
sums_all g start [] = refl
sums_all g start (b ∷ bs) = ap (λ l. both_branches b (g start) ∷ l) (sums_all g (start + 1) bs)

-- the items of a line are all that its branches count
pub same_branches : (n : ℕ) (l : LineMade) (items : List RowMade) → items_in l ≡ items
    → map (branch_counts (fold_of_items items)) (range_with_len 0 n) ≡ map (branch_counts (line_folds 0 l))
    (range_with_len 0 n)
same_branches n l items e =
    ap (λ is. map (branch_counts (fold_of_items is)) (range_with_len 0 n)) (sym e)

-- ---- the counts of a line

added_up : (before k counted : ℕ) → k ≡ counted
    → saturate_u64 (before + k) ≡ saturate_u64 (before + saturate_u64 counted)
added_up before k counted e = omega (arith, e)

pub line_added : (before : Counts) (l : LineMade) (r b n u : ℕ) (branches : List BranchCounts)
    → r ≡ count_by (λ f. is_record f.made) (line_folds 0 l) → b ≡ count_by (λ f. is_bad f.made) (line_folds 0 l)
    → n ≡ sum_by (λ f. rows_in f.made) (line_folds 0 l) → u ≡ sum_by (λ f. unrouted_in f.made) (line_folds 0 l)
    → branches ≡ branch_sums before.branches
    (map (branch_counts (line_folds 0 l)) (range_with_len 0 (length before.branches)))
    → record {
      records = saturate_u64 (before.records + r);
      bad = saturate_u64 (before.bad + b);
      rows = saturate_u64 (before.rows + n);
      unrouted = saturate_u64 (before.unrouted + u);
      branches = branches;
    } ≡ sum_of before (counts_of_line (length before.branches) l)
unfolding sum_of
line_added before l r b n u branches r_is b_is n_is u_is branches_are =
    let e = added_up before.records r _ r_is in
    let f = added_up before.bad b _ b_is in
    let g = added_up before.rows n _ n_is in
    let h = added_up before.unrouted u _ u_is in
    λ k. record { records = e k; bad = f k; rows = g k; unrouted = h k; branches = branches_are k }

-- the items don't depend on the bytes of a line
pub same_items : (e : LineEnd) (raw : List ℕ) (items : List RowMade) → items_in (line_of_end e [] items) ≡ items
    → items_in (line_of_end e raw items) ≡ items
same_items end.Header raw items h = h
same_items end.Bad raw items h = h
same_items (end.Made rows unrouted) raw items h = h
