-- A state that has a spelling has one after a run.
use Rattle.std.proofs.Common.{◌≡◌, ⊎_elim, ℕ, zero, suc, ◌+◌, ◌<◌, ◌≤◌, ◌^◌, Bool, true, false, cond, ◌&&◌, ◌||◌, List}
use Rattle.std.proofs.Common.{[], ◌∷◌, ◌++◌, length, All, refl, sym, ap, subst, ◌∙◌, Some, None, arith}
use Rattle.std.specs.declared.option.Option.{Option}
use Rattle.std.specs.List.{AllByRecursion, Contains, IsDistinct, filter, list_any, zip}
use Rattle.std.specs.Str.{bytes_eq}
use Rattle.std.proofs.lemmas.Bool.{and_from}
use Rattle.std.proofs.lemmas.List.Elements.{All-nil, All-cons, All-tail, All-append}
use Rattle.gob_bytes.specs.Tables.{at_name, names_of, IsInByteOrder}
use Rattle.gob_bytes.proofs.Tables.{name_itself, same_name}
use Rattle.gob_plan.specs.declared.units.BranchCounts.{BranchCounts}
use Rattle.gob_plan.specs.declared.units.Counts.{Counts}
use Rattle.gob_plan.specs.declared.units.Unit.{Unit as WorkUnit}
use Rattle.gob_meaning.specs.Fold.{saturate_u64}
use Rattle.gob_meaning.specs.Sums.{both_branches, branch_sums, sum_of}
use Rattle.gob_ledger.specs.Marks.{Marks}
use Rattle.gob_ledger.specs.State.{State, marks_at, TiledState}
use Rattle.gob_ledger.specs.Units.{span_of, same_unit, next_of, fresh_in, AreAdjacentFrom, IsOwed, UnitsFit}
use Rattle.gob_ledger.specs.Next.{Judged, with_owed, with_done, change_part, add_unit, finish_unit, fold_units}
use Rattle.gob_ledger.specs.Next.{counts_in, plus, with_pipeline, pipeline_index, state_with_commit_or, allowed_units}
use Rattle.gob_ledger.specs.Next.{next_state}
use Rattle.gob_ledger.specs.Spelling.{Small, SmallBranch, SmallCounts, ProperPart, Proper, IsKeptPipeline}
use Rattle.gob_ledger.specs.Laws.{ProperUnit, ProperCounts, NextIsProper}
use Rattle.gob_ledger.proofs.Members.{first_in, later_in, filter_in}
use Rattle.gob_ledger.proofs.Changes.{marks_or, marks_or-at, changed_cases, all_member, units_in, units_of_zip}
use Rattle.gob_ledger.proofs.Changes.{adds-pipelines, finishes-pipelines, with-parts, with-pipelines, next_rising}
use Rattle.gob_ledger.proofs.Tiling.{tiles, all_added, with_tiled, finish_keeps, distinct_filter, filter_units}
use Rattle.gob_ledger.proofs.Cutting.{follow_above}

abbrev pub AllProper : State → Type 0
AllProper s = (part : List ℕ) (m : Marks) → marks_at s part ≡ Some m → ProperPart part m

-- ---- counts

capped_small : (n : ℕ) → saturate_u64 n < 2 ^ 64
capped_small n = omega arith

both_small : (a b : BranchCounts) → SmallBranch (both_branches a b)
both_small a b = record {
  written = capped_small (a.written + b.written);
  errors =
      capped_small (a.errors + b.errors);
  optional = capped_small (a.optional + b.optional);
}

sums_small : (xs ys : List BranchCounts) → All SmallBranch xs → All SmallBranch ys → All SmallBranch (branch_sums xs ys)
sums_small [] ys a b = b
sums_small (x ∷ xs) [] a b = a
sums_small (x ∷ xs) (y ∷ ys) a b = All-cons SmallBranch (both_branches x y) (branch_sums xs ys) (both_small x y)
    (sums_small xs ys (All-tail SmallBranch x xs a) (All-tail SmallBranch y ys b))

sums_few : (n : ℕ) (xs ys : List BranchCounts) → length xs ≤ n → length ys ≤ n → length (branch_sums xs ys) ≤ n
sums_few n [] ys a b = b
sums_few n (x ∷ xs) [] a b = a
sums_few zero (x ∷ xs) (y ∷ ys) a b = absurd (omega (arith, a))
sums_few (suc n) (x ∷ xs) (y ∷ ys) a b = let r = sums_few n xs ys (omega (arith, a)) (omega (arith, b)) in
    omega (arith, r)

pub sums_more : (xs ys : List BranchCounts) → length xs ≤ length (branch_sums xs ys)
sums_more [] ys = omega arith
sums_more (x ∷ xs) [] = omega arith
sums_more (x ∷ xs) (y ∷ ys) = let r = sums_more xs ys in omega (arith, r)

-- totals that a state can keep
record ProperTotals (c : Counts) : Type 0 where
  small : SmallCounts c
  some : 1 ≤ length c.branches
  few : length c.branches ≤ 8

sum_proper : (a b : Counts) → ProperTotals a → ProperCounts b → ProperTotals (sum_of a b)
unfolding sum_of
sum_proper a b x y = record {
  small = record {
    records = capped_small (a.records + b.records);
    bad = capped_small (a.bad + b.bad);
    rows = capped_small (a.rows + b.rows);
    unrouted = capped_small (a.unrouted + b.unrouted);
    branches = sums_small a.branches b.branches x.small.branches y.small.branches;
  };
  some = let m = sums_more a.branches b.branches in let one = x.some in omega (arith, m, one);
  few = sums_few 8 a.branches b.branches x.few y.few;
}

plus_proper : (a : Counts) (o : Option Counts) → ProperTotals a → ((c : Counts) → o ≡ Some c → ProperCounts c)
    → ProperTotals (plus a o)
plus_proper a None x each = x
plus_proper a (Some c) x each = sum_proper a c x (each c refl)

finishes_totals : (p : ℕ) (js : List Judged) (s : State) → ProperTotals s.totals
    → ((j : Judged) (c : Counts) → Contains js j → counts_in j.1 ≡ Some c → ProperCounts c)
    → ProperTotals (fold_units (finish_unit p) s js).totals
finishes_totals p [] s x each = x
finishes_totals p (j ∷ js) s x each =
    finishes_totals p js (finish_unit p s j) (plus_proper s.totals (counts_in j.1) x
    (λ c e. each j c (first_in j js j refl) e)) (λ k c h e. each k c (later_in j js k h) e)

pub adds_totals : (js : List Judged) (s : State) → (fold_units add_unit s js).totals ≡ s.totals
adds_totals [] s = refl
adds_totals (j ∷ js) s = adds_totals js (add_unit s j) ∙ elim j.0.fresh as
    (λ b. (cond b (change_part (with_owed (span_of j.0)) j.0.part s) s).totals ≡ s.totals)
    [ true ↦ refl | false ↦ refl ]

-- ---- partitions

add_proper : (s : State) (j : Judged) → AllProper s → ProperUnit j.0 → (j.0.fresh ≡ true → j.0.lo < j.0.hi)
    → AllProper (add_unit s j)
add_proper s j all unit some = elim j.0.fresh as (λ b. j.0.fresh ≡ b
    → AllProper (cond b (change_part (with_owed (span_of j.0)) j.0.part s) s)) [
      | true ↦ λ f. λ q m e. ⊎_elim
          (λ p. subst (λ (n : List ℕ). ProperPart n m) (sym p.0) (subst (ProperPart j.0.part) p.1
          (record {
            named = unit.named;
            text = unit.text;
            begun = (let b = some f in omega (arith, b));
            small =
                unit.small;
          })))
          (λ p. all q m p.1)
          (changed_cases (with_owed (span_of j.0)) j.0.part s q m e)
      | false ↦ λ f. all
    ] refl

adds_proper : (js : List Judged) (s : State) → AllProper s → ((u : WorkUnit) → Contains (units_in js) u → ProperUnit u)
    → ((u : WorkUnit) → Contains (units_in js) u → u.fresh ≡ true → u.lo < u.hi) → AllProper (fold_units add_unit s js)
adds_proper [] s all units some = all
adds_proper (j ∷ js) s all units some =
    adds_proper js (add_unit s j) (add_proper s j all (units j.0 (first_in j.0 (units_in js) j.0 refl))
    (some j.0 (first_in j.0 (units_in js) j.0 refl)))
    (λ u h. units u (later_in j.0 (units_in js) u h)) (λ u h. some u (later_in j.0 (units_in js) u h))

finish_proper : (p : ℕ) (s : State) (j : Judged) → AllProper s → IsOwed s.parts j.0 → AllProper (finish_unit p s j)
finish_proper p s j all o = λ q m e. ⊎_elim
    (λ x.
    let n : marks_or s j.0.part ≡ o.0 = marks_or-at s j.0.part o.0 o.1 in
    let old : ProperPart j.0.part (marks_or s j.0.part) = subst (ProperPart j.0.part) (sym n) (all j.0.part o.0 o.1) in
    subst (λ (n : List ℕ). ProperPart n m) (sym x.0) (subst (ProperPart j.0.part) x.1
    (record { named = old.named; text = old.text; begun = old.begun; small = old.small })))
    (λ x. all q m x.1)
    (changed_cases (with_done p (span_of j.0)) j.0.part s q m e)

finishes_proper : (p : ℕ) (js : List Judged) (s : State) → AllProper s → IsDistinct same_unit (units_in js)
    → ((k : WorkUnit) → Contains (units_in js) k → IsOwed s.parts k) → AllProper (fold_units (finish_unit p) s js)
unfolding IsDistinct
finishes_proper p [] s all apart owed = all
finishes_proper p (j ∷ js) s all apart owed =
    finishes_proper p js (finish_unit p s j) (finish_proper p s j all (owed j.0 (first_in j.0 (units_in js) j.0 refl)))
    apart.1
    (λ k h. finish_keeps p s j k (all_member (λ y. same_unit j.0 y ≡ false) (units_in js) k apart.0 h)
    (owed k (later_in j.0 (units_in js) k h)))

-- ---- the state

eq_sym : (x y : List ℕ) → bytes_eq x y ≡ false → bytes_eq y x ≡ false
eq_sym x y e = cases (bytes_eq y x) refl
  where
    cases : (b : Bool) → bytes_eq y x ≡ b → bytes_eq y x ≡ false
    cases false is = is
    cases true is = absurd (let no : true ≡ false = sym (subst (λ z. bytes_eq x z ≡ true) (sym (same_name y x is))
        (name_itself x)) ∙ e in cc)

not_any : (p x : List ℕ) (xs : List (List ℕ)) → (bytes_eq p x || list_any (bytes_eq p) xs) ≡ false
    → (bytes_eq p x ≡ false) × (list_any (bytes_eq p) xs ≡ false)
not_any p x xs e = cases (bytes_eq p x) refl e
  where
    cases : (b : Bool) → bytes_eq p x ≡ b → (b || list_any (bytes_eq p) xs) ≡ false → (bytes_eq p x ≡ false)
        × (list_any (bytes_eq p) xs ≡ false)
    cases true is e = absurd (let no : true ≡ false = e in cc)
    cases false is e = (is, e)

push_all : {A : Type 0} (P : A → Type 0) (xs : List A) (y : A) → All P xs → P y → All P (xs ++ y ∷ [])
push_all P xs y a p = All-append P xs (y ∷ []) a (All-cons P y [] p (All-nil P))

push_each : {A : Type 0} (P : A → Type 0) (xs : List A) (y : A) → AllByRecursion P xs → P y
    → AllByRecursion P (xs ++ y ∷ [])
push_each P [] y a p = (p, tt)
push_each P (x ∷ xs) y a p = (a.0, push_each P xs y a.1 p)

push_distinct : (p : List ℕ) (xs : List (List ℕ)) → IsDistinct bytes_eq xs → list_any (bytes_eq p) xs ≡ false
    → IsDistinct bytes_eq (xs ++ p ∷ [])
unfolding IsDistinct
push_distinct p [] d e = (tt, tt)
push_distinct p (x ∷ xs) d e =
    let n = not_any p x xs e in
    (push_each (λ y. bytes_eq x y ≡ false) xs p d.0 (eq_sym p x n.0), push_distinct p xs d.1 n.1)

pipelines_proper : (p : List ℕ) (ps : List (List ℕ)) (b : Bool) → list_any (bytes_eq p) ps ≡ b → IsKeptPipeline p
    → All IsKeptPipeline ps → IsDistinct bytes_eq ps
    → All IsKeptPipeline (cond b ps (ps ++ p ∷ [])) × IsDistinct bytes_eq (cond b ps (ps ++ p ∷ []))
pipelines_proper p ps true is own all apart = (all, apart)
pipelines_proper p ps false is own all apart = (push_all IsKeptPipeline ps p all own, push_distinct p ps apart is)

pub with-totals : (p : List ℕ) (s : State) → (with_pipeline p s).totals ≡ s.totals
with-totals p s = elim (list_any (bytes_eq p) s.pipelines) as
    (λ b. (cond b s (record s { pipelines = s.pipelines ++ p ∷ [] })).totals ≡ s.totals) [ true ↦ refl | false ↦ refl ]

committed_proper : (s : State) (pipeline : List ℕ) (all : List Judged) (keep : Judged → Bool) (done : List Judged)
    → done ≡ filter keep all → Proper s → IsKeptPipeline pipeline
    → Small (length (state_with_commit_or s pipeline all done).pipelines) → UnitsFit s.parts (units_in all)
    → ((u : WorkUnit) → Contains (units_in all) u → ProperUnit u)
    → ((j : Judged) (c : Counts) → Contains done j → counts_in j.1 ≡ Some c → ProperCounts c)
    → TiledState (state_with_commit_or s pipeline all done) → IsInByteOrder
    (names_of (state_with_commit_or s pipeline all done).parts) → Proper (state_with_commit_or s pipeline all done)
committed_proper s pipeline all keep [] is proper one small fit units counts tiled rising = proper
committed_proper s pipeline all keep (d ∷ ds) is proper one small fit units counts tiled rising =
    let p = pipeline_index pipeline s in
    let start = with_pipeline pipeline s in
    let added = all_added all start (with_tiled pipeline s proper.tiled)
    (λ q. subst (λ t. AreAdjacentFrom (next_of t q) (fresh_in q (units_in all))) (sym (with-parts pipeline s))
    (fit.fresh q)) in
    let t = fold_units add_unit start all in
    let owed : (k : WorkUnit) → Contains (units_in all) k → IsOwed t.parts k = λ k h.
    elim k.fresh as (λ b. k.fresh ≡ b → IsOwed t.parts k) [
      | true ↦ λ e. added.owes k h e
      | false ↦ λ e. added.keeps k (subst (λ q. IsOwed q k) (sym (with-parts pipeline s)) (fit.owed k h e))
    ] refl in
    let some : (u : WorkUnit) → Contains (units_in all) u → u.fresh ≡ true → u.lo < u.hi = λ u h f.
    (follow_above (next_of s.parts u.part) (fresh_in u.part (units_in all)) u (fit.fresh u.part)
    (filter_in (λ v. v.fresh && bytes_eq v.part u.part) (units_in all) u h (and_from _ _ f (name_itself u.part)))).1
    in
    let parts = finishes_proper p (d ∷ ds) t (adds_proper all start
    (λ q m e. proper.parts q m (ap (λ t. at_name t q) (sym (with-parts pipeline s)) ∙ e)) units some)
    (subst (λ js. IsDistinct same_unit (units_in js)) (sym is) (distinct_filter keep all fit.once))
    (λ k h. owed k (filter_units keep all k (subst (λ js. Contains (units_in js) k) is h))) in
    let first : ProperTotals t.totals = subst ProperTotals (sym (adds_totals all start ∙ with-totals pipeline s))
    (record { small = proper.totals; some = proper.branches.0; few = proper.branches.1 }) in
    let totals = finishes_totals p (d ∷ ds) t first counts in
    let pipes = finishes-pipelines p (d ∷ ds) t ∙ (adds-pipelines all start ∙ with-pipelines pipeline s) in
    let both = pipelines_proper pipeline s.pipelines (list_any (bytes_eq pipeline) s.pipelines) refl one
    proper.pipelines proper.differ in
    record {
      run = capped_small (s.run + 1);
      pipelines = subst (All IsKeptPipeline) (sym pipes) both.0;
      few = small;
      differ = subst (IsDistinct bytes_eq) (sym pipes) both.1;
      totals = totals.small;
      branches = (totals.some, totals.few);
      names = rising;
      parts = parts;
      tiled = tiled;
    }

pub stays_proper : NextIsProper
unfolding next_state
stays_proper s pipeline units verdicts policy same proper one small fit each counts =
    let fits = subst (UnitsFit s.parts) (sym (units_of_zip units verdicts same)) fit in
    committed_proper s pipeline (zip units verdicts) _ (allowed_units policy (zip units verdicts)) refl proper one small
    fits
    (λ u h. each u (subst (λ us. Contains us u) (units_of_zip units verdicts same) h)) counts
    (tiles s pipeline units verdicts policy same proper.tiled fit)
    (next_rising s pipeline units verdicts policy proper.names)
