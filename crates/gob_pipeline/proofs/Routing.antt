-- Rows over the branches of a plan, one after the other.
use Rattle.std.proofs.Common.{◌≡◌, ℕ, zero, suc, ◌+◌, ◌<◌, Bool, true, false, if◌then◌else◌}
use Rattle.std.proofs.Common.{◌||◌, List, [], ◌∷◌, ◌++◌, length, get_or, take, drop}
use Rattle.std.proofs.Common.{Option, Some, None, append-nil, refl, sym, ap, ap₂, subst, ◌∙◌, arith, ◌≤◌}
use Rattle.std.proofs.lemmas.List.{drop_all, length-map, take_all}
use Rattle.std.proofs.Math.Seq.{take-suc}
use Rattle.std.specs.List.{enumerate_from, list_any}
use Rattle.std.specs.Option.{is_some}
use Rattle.gob_plan.specs.declared.plan.BranchSpec.{BranchSpec}
use Rattle.gob_plan.specs.declared.rows.Column.{Column}
use Rattle.gob_branch.specs.Branches.{BranchValue}
use Rattle.std.proofs.lemmas.List.Folds.{list_any_more}
use Rattle.std.proofs.lemmas.List.FromFn.{length-enumerate_from}
use Rattle.gob_plan.specs.declared.rows.Row.{Row}
use Rattle.gob_plan.specs.Rows.{conforms}
use Rattle.gob_convert.specs.Made.{Made, concatenation, made_each}
use Rattle.gob_meaning.specs.Items.{RowMade, made_in_branch}
use Rattle.gob_branch.proofs.Joined.{bad_of_joined, made_next}
use Rattle.gob_pipeline.specs.Routes.{AreNumberedBranches, RoutesValue, RowSent, branch_makes, is_routed, is_taken}
use Rattle.gob_pipeline.specs.Routes.{route_makes}
use Rattle.gob_pipeline.specs.Routes.{specs_of, waiting_makes}

-- the branch at a place: its number and its columns, and how its spec stands among the numbered specs
pub record BranchAt (columns : List Column) (n : ℕ) (bs : List BranchValue) (i : ℕ) (b : BranchValue) : Type 0 where
  pub number : b.number ≡ n + i
  pub columns_are : b.columns ≡ columns
  pub entry : (b.number, b.spec) ≡ get_or (enumerate_from n (specs_of bs)) i (b.number, b.spec)
  pub within : i < length (enumerate_from n (specs_of bs))

pub branch_at : (columns : List Column) (n : ℕ) (bs : List BranchValue) (i : ℕ) (b : BranchValue)
    → AreNumberedBranches columns n bs → i < length bs → b ≡ get_or bs i b → BranchAt columns n bs i b
branch_at columns n [] i b are lt is = absurd (omega arith)
branch_at columns n (c ∷ cs) zero b are lt is = record {
  number = ap (λ (x : BranchValue). x.number) is ∙ (are.0 ∙ omega arith);
  columns_are = ap (λ (x : BranchValue). x.columns) is ∙ are.1;
  entry = ap₂ (λ k s. (k, s)) (ap (λ (x : BranchValue). x.number) is ∙ are.0) (ap (λ (x : BranchValue). x.spec) is);
  within = omega arith;
}
branch_at columns n (c ∷ cs) (suc i) b are lt is =
    let later = branch_at columns (n + 1) cs i b are.2 (omega arith) is in
    record {
      number = later.number ∙ omega arith;
      columns_are = later.columns_are;
      entry = later.entry;
      within = let w = later.within in omega (arith, w);
    }

-- ---- a row that is sent

-- to none so far
pub sent_first : (r : RoutesValue) (row : Row) (old : List RowMade) → RowSent r row old old None 0
sent_first r row old = record {
  taking = refl;
  made = ap (λ l. concatenation (Some l) (route_makes r row)) (append-nil old);
  routed_is = refl;
}

-- how a branch stands among the numbered specs of its routes
record Stands (r : RoutesValue) (i : ℕ) (b : BranchValue) : Type 0 where
  columns_are : b.columns ≡ r.columns
  entry : (b.number, b.spec) ≡ get_or (enumerate_from 0 r.branches) i (b.number, b.spec)
  within : i < length (enumerate_from 0 r.branches)

stands : (r : RoutesValue) (bs : List BranchValue) (i : ℕ) (b : BranchValue) → AreNumberedBranches r.columns 0 bs
    → specs_of bs ≡ r.branches → i < length bs → b ≡ get_or bs i b → Stands r i b
stands r bs i b are specs lt is =
    let at = branch_at r.columns 0 bs i b are lt is in
    record {
      columns_are = at.columns_are;
      entry = subst (λ l. (b.number, b.spec) ≡ get_or (enumerate_from 0 l) i (b.number, b.spec)) specs at.entry;
      within = subst (λ l. i < length (enumerate_from 0 l)) specs at.within;
    }

nothing_more : {A : Type 0} (m : Made A) → concatenation m (Some []) ≡ m
nothing_more None = refl
nothing_more (Some xs) = ap Some (append-nil xs)

-- a branch that doesn't take it makes nothing
pub sent_past : (r : RoutesValue) (row : Row) (old now : List RowMade) (bs : List BranchValue)
    (waiting : Option BranchValue) (i : ℕ) (b : BranchValue) → RowSent r row old now waiting i
    → AreNumberedBranches r.columns 0 bs → specs_of bs ≡ r.branches → i < length bs → b ≡ get_or bs i b
    → is_taken r row (b.number, b.spec) ≡ false → RowSent r row old now waiting (i + 1)
sent_past r row old now bs waiting i b so are specs lt is not =
    let at = stands r bs i b are specs lt is in
    let f = branch_makes r row in
    let xs = enumerate_from 0 r.branches in
    let x : ℕ × BranchSpec = (b.number, b.spec) in
    let m = concatenation (Some now) (waiting_makes waiting row) in
    let nothing : f x ≡ Some [] =
    ap (λ t. if t then made_in_branch b.spec b.number r.columns row else Some []) not in
    record {
      taking = so.taking;
      made = ap (λ n. concatenation n (made_each f (drop (i + 1) xs)))
          (sym (ap (concatenation m) nothing ∙ nothing_more m))
          ∙ made_next f xs i x m at.within at.entry ∙ so.made;
      routed_is = so.routed_is ∙ or_false (list_any (is_taken r row) (take i xs))
          ∙ ap (λ t. list_any (is_taken r row) (take i xs) || t) (sym not ∙ ap (is_taken r row) at.entry)
          ∙ sym (list_any_more (is_taken r row) xs i x at.within);
    }
  where
    or_false : (t : Bool) → t ≡ (t || false)
    or_false true = refl
    or_false false = refl

-- a branch that takes it waits, and the one that waited got it
pub sent_more : (r : RoutesValue) (row : Row) (old now next : List RowMade) (bs : List BranchValue)
    (waiting : Option BranchValue) (i : ℕ) (b : BranchValue) → RowSent r row old now waiting i
    → AreNumberedBranches r.columns 0 bs → specs_of bs ≡ r.branches → i < length bs → b ≡ get_or bs i b
    → conforms r.columns row ≡ true → is_taken r row (b.number, b.spec) ≡ true
    → concatenation (Some now) (waiting_makes waiting row) ≡ Some next → RowSent r row old next (Some b) (i + 1)
sent_more r row old now next bs waiting i b so are specs lt is fits takes made =
    let at = stands r bs i b are specs lt is in
    let f = branch_makes r row in
    let xs = enumerate_from 0 r.branches in
    let x : ℕ × BranchSpec = (b.number, b.spec) in
    let m = concatenation (Some now) (waiting_makes waiting row) in
    let makes : waiting_makes (Some b) row ≡ f x =
    ap (λ cs. made_in_branch b.spec b.number cs row) at.columns_are
    ∙ ap (λ t. if t then made_in_branch b.spec b.number r.columns row else Some []) (sym takes) in
    record {
      taking = ap (λ cs. conforms cs row) at.columns_are ∙ fits;
      made = ap₂ (λ n o. concatenation (concatenation n o) (made_each f (drop (i + 1) xs))) (sym made) makes
          ∙ made_next f xs i x m at.within at.entry ∙ so.made;
      routed_is = true_or (list_any (is_taken r row) (take i xs))
          ∙ ap (λ t. list_any (is_taken r row) (take i xs) || t) (sym takes ∙ ap (is_taken r row) at.entry)
          ∙ sym (list_any_more (is_taken r row) xs i x at.within);
    }
  where
    true_or : (t : Bool) → true ≡ (t || true)
    true_or true = refl
    true_or false = refl

-- the one that waits can make nothing of it
pub sent_bad : (r : RoutesValue) (row : Row) (old now : List RowMade) (waiting : Option BranchValue) (i : ℕ)
    → RowSent r row old now waiting i → waiting_makes waiting row ≡ None → route_makes r row ≡ None
sent_bad r row old now waiting i so bad = bad_of_joined old (route_makes r row)
    (sym (ap (λ m. concatenation (concatenation (Some now) m)
    (made_each (branch_makes r row) (drop i (enumerate_from 0 r.branches)))) bad) ∙ so.made)

numbered : (bs : List BranchValue) (i : ℕ) → length bs ≤ i → length (enumerate_from 0 (specs_of bs)) ≤ i
numbered bs i over =
    let a = length-enumerate_from 0 (specs_of bs) in
    let b = length-map bs (λ (x : BranchValue). x.spec) in
    omega (arith, a, b, over)

-- no branch is left
pub sent_all : (r : RoutesValue) (row : Row) (old now : List RowMade) (bs : List BranchValue)
    (waiting : Option BranchValue) (i : ℕ) → RowSent r row old now waiting i → specs_of bs ≡ r.branches
    → length bs ≤ i
    → concatenation (Some old) (route_makes r row) ≡ concatenation (Some now) (waiting_makes waiting row)
sent_all r row old now bs waiting i so specs over =
    let m = concatenation (Some now) (waiting_makes waiting row) in
    sym so.made ∙ ap (λ l. concatenation m (made_each (branch_makes r row) l))
    (drop_all i (enumerate_from 0 r.branches)
    (subst (λ l. length (enumerate_from 0 l) ≤ i) specs (numbered bs i over))) ∙ nothing_more m

pub routed_all : (r : RoutesValue) (row : Row) (old now : List RowMade) (bs : List BranchValue)
    (waiting : Option BranchValue) (i : ℕ) → RowSent r row old now waiting i → specs_of bs ≡ r.branches
    → length bs ≤ i → is_some waiting ≡ is_routed r row
routed_all r row old now bs waiting i so specs over =
    so.routed_is ∙ ap (list_any (is_taken r row)) (take_all i (enumerate_from 0 r.branches)
    (subst (λ l. length (enumerate_from 0 l) ≤ i) specs (numbered bs i over)))

-- ---- branches that are set up

pub one_more_branch : (columns : List Column) (n k : ℕ) (bs : List BranchValue) (b : BranchValue)
    → AreNumberedBranches columns n bs → k ≡ n + length bs → b.number ≡ k → b.columns ≡ columns
    → AreNumberedBranches columns n (bs ++ b ∷ [])
one_more_branch columns n k [] b are at number of = (number ∙ (at ∙ omega arith), of, tt)
one_more_branch columns n k (c ∷ cs) b are at number of =
    (are.0, are.1, one_more_branch columns (n + 1) k cs b are.2 (at ∙ omega arith) number of)

pub specs_more : (bs : List BranchValue) (b : BranchValue) → specs_of (bs ++ b ∷ []) ≡ specs_of bs ++ b.spec ∷ []
specs_more [] b = refl
specs_more (c ∷ cs) b = ap (λ l. c.spec ∷ l) (specs_more cs b)

pub taken_more : (xs : List BranchSpec) (i : ℕ) (x : BranchSpec) → i < length xs → x ≡ get_or xs i x
    → take i xs ++ x ∷ [] ≡ take (i + 1) xs
taken_more xs i x lt is =
    let next : suc i ≡ i + 1 = omega arith in
    ap (λ y. take i xs ++ y ∷ []) is ∙ (sym (take-suc xs i x lt) ∙ ap (λ n. take n xs) next)
