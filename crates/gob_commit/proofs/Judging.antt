-- Which units are committed, by the datasets with a unit that isn't good.
use Rattle.std.proofs.Common.{◌≡◌, ℕ, ◌+◌, ◌<◌, ◌≤◌, Bool, true, false, cond, not, ◌&&◌, ◌||◌, List, [], ◌∷◌}
use Rattle.std.proofs.Common.{◌++◌, map, length, drop, get_or, refl, sym, ap, ◌∙◌, arith, append_assoc, append-nil}
use Rattle.std.specs.Cmp.Lexicographic.{nat_list_eq_equiv}
use Rattle.std.specs.List.{filter, list_all, list_any}
use Rattle.std.specs.Str.{bytes_eq}
use Rattle.gob_plan.specs.declared.plan.CommitPolicy.{CommitPolicy}
use Rattle.gob_plan.specs.declared.plan.CommitPolicy.TheVariants.{Full, Successful}
use Rattle.gob_plan.specs.declared.plan.CommitScope.TheVariants as scope
use Rattle.gob_plan.specs.declared.units.Unit.{Unit as WorkUnit}
use Rattle.gob_plan.specs.declared.units.UnitResult.{UnitResult}
use Rattle.gob_meaning.specs.Results.{Verdict}
use Rattle.gob_ledger.specs.Groups.{dataset_of, is_committed}
use Rattle.gob_ledger.specs.Next.{Judged, allows, is_good}
use Rattle.gob_ledger.proofs.Scheduling.{or_none}
use Rattle.gob_state.specs.Committed.{judged_by, may_commit, verdict_in, verdicts_in}
use Rattle.gob_commit.specs.Groups.{is_bad_unit}
use Rattle.gob_state.proofs.NextLemmas.{length_verdicts}
use Rattle.gob_commit.proofs.Joining.{zip_seconds}
use Rattle.gob_commit.proofs.Pushing.{drop_here, drop_none}

-- the units from a place on
judged_drop : (units : List WorkUnit) (results : List UnitResult) (i : ℕ) (u : WorkUnit) (r : UnitResult)
    → i < length units → i < length results → u ≡ get_or units i u → r ≡ get_or results i r
    → judged_by (drop i units) (drop i results)
    ≡ (u, verdict_in r) ∷ judged_by (drop (i + 1) units) (drop (i + 1) results)
judged_drop units results i u r below within is made =
    λ j. judged_by (drop_here units i u below is j) (drop_here results i r within made j)

judged_end : (units : List WorkUnit) (results : List UnitResult) (i : ℕ) → length units ≤ i
    → judged_by (drop i units) (drop i results) ≡ []
judged_end units results i ended = ap (λ us. judged_by us (drop i results)) (drop_none units i ended)

-- ---- the datasets with a bad unit

or_turned : (a b c : Bool) → ((a || b) || c) ≡ (a || (b || c))
or_turned true b c = refl
or_turned false b c = refl

pub bad_more : (q : List ℕ) (units : List WorkUnit) (results : List UnitResult) (i : ℕ) (u : WorkUnit)
    (r : UnitResult) (old now whole : Bool) → i < length units → i < length results → u ≡ get_or units i u
    → r ≡ get_or results i r → now ≡ (old || is_bad_unit q (u, verdict_in r))
    → (old || list_any (is_bad_unit q) (judged_by (drop i units) (drop i results))) ≡ whole
    → (now || list_any (is_bad_unit q) (judged_by (drop (i + 1) units) (drop (i + 1) results))) ≡ whole
bad_more q units results i u r old now whole below within is made put so_far =
    let rest = list_any (is_bad_unit q) (judged_by (drop (i + 1) units) (drop (i + 1) results)) in
    ap (λ b. b || rest) put ∙ or_turned old (is_bad_unit q (u, verdict_in r)) rest
    ∙ ap (λ js. old || list_any (is_bad_unit q) js) (sym (judged_drop units results i u r below within is made))
    ∙ so_far

and_not : (a b : Bool) → b ≡ true → (a && not b) ≡ false
and_not true b e = ap not e
and_not false b e = refl

pub good_stays : (q : List ℕ) (u : WorkUnit) (r : UnitResult) (old good : Bool) → good ≡ is_good (verdict_in r)
    → good ≡ true → old ≡ (old || is_bad_unit q (u, verdict_in r))
good_stays q u r old good is all_right =
    sym (or_none old (is_bad_unit q (u, verdict_in r))
    (and_not (bytes_eq q (dataset_of u.part)) (is_good (verdict_in r)) (sym is ∙ all_right)))

put_or : (a b old : Bool) → a ≡ b → cond a true old ≡ (old || (b && true))
put_or true true old e = flipped old
  where
    flipped : (o : Bool) → true ≡ (o || true)
    flipped true = refl
    flipped false = refl
put_or false false old e = none old
  where
    none : (o : Bool) → o ≡ (o || false)
    none true = refl
    none false = refl
put_or true false old e = cc
put_or false true old e = cc

pub bad_put : (q d : List ℕ) (u : WorkUnit) (r : UnitResult) (old now good : Bool) → good ≡ is_good (verdict_in r)
    → good ≡ false → d ≡ dataset_of u.part → now ≡ cond (bytes_eq d q) true old
    → now ≡ (old || is_bad_unit q (u, verdict_in r))
bad_put q d u r old now good is bad named put =
    put
    ∙ (put_or (bytes_eq d q) (bytes_eq q (dataset_of u.part)) old
    (nat_list_eq_equiv.symm d q ∙ ap (bytes_eq q) named)
    ∙ ap (λ b. old || (bytes_eq q (dataset_of u.part) && not b)) (sym bad ∙ is))

pub bad_end : (q : List ℕ) (units : List WorkUnit) (results : List UnitResult) (i : ℕ) (old whole : Bool)
    → length units ≤ i → (old || list_any (is_bad_unit q) (judged_by (drop i units) (drop i results))) ≡ whole
    → old ≡ whole
bad_end q units results i old whole ended so_far =
    sym (or_none old _ (ap (list_any (is_bad_unit q)) (judged_end units results i ended))) ∙ so_far

-- ---- the units that are committed

-- the units of a dataset are all good where none of them is bad
all_good : (d : List ℕ) (js : List Judged)
    → not (list_any (is_bad_unit d) js)
    ≡ list_all is_good (map (λ (k : Judged). k.1) (filter (λ k. bytes_eq (dataset_of k.0.part) d) js))
all_good d [] = refl
all_good d (j ∷ js) =
    by_cases (bytes_eq d (dataset_of j.0.part)) (bytes_eq (dataset_of j.0.part) d) (is_good j.1)
    (list_any (is_bad_unit d) js) j (filter (λ k. bytes_eq (dataset_of k.0.part) d) js)
    (nat_list_eq_equiv.symm d (dataset_of j.0.part)) refl (all_good d js)
  where
    by_cases : (a b g any : Bool) (k : Judged) (rest : List Judged) → a ≡ b → is_good k.1 ≡ g
        → not any ≡ list_all is_good (map (λ (i : Judged). i.1) rest)
        → not ((a && not g) || any) ≡ list_all is_good (map (λ (i : Judged). i.1) (cond b (k ∷ rest) rest))
    by_cases true true true any k rest same is later =
        later ∙ ap (λ b. b && list_all is_good (map (λ (i : Judged). i.1) rest)) (sym is)
    by_cases true true false any k rest same is later =
        ap (λ b. b && list_all is_good (map (λ (i : Judged). i.1) rest)) (sym is)
    by_cases false false g any k rest same is later = later
    by_cases true false g any k rest same is later = cc
    by_cases false true g any k rest same is later = cc

pub flag_is : (policy : CommitPolicy) (js : List Judged) (u : WorkUnit) (v : Verdict) (d : List ℕ) (all : Bool)
    → d ≡ dataset_of u.part → all ≡ not (list_any (is_bad_unit d) js)
    → may_commit policy all v ≡ is_committed scope.Dataset policy js (u, v)
flag_is Full js u v d all named is =
    is ∙ all_good d js
    ∙ ap (λ e. list_all is_good (map (λ (k : Judged). k.1) (filter (λ k. bytes_eq (dataset_of k.0.part) e) js))) named
flag_is Successful js u v d all named is = refl

pub flags_more : (f : Judged → Bool) (units : List WorkUnit) (results : List UnitResult) (i : ℕ) (u : WorkUnit)
    (r : UnitResult) (b : Bool) (flags new whole : List Bool) → i < length units → i < length results
    → u ≡ get_or units i u → r ≡ get_or results i r → b ≡ f (u, verdict_in r) → new ≡ flags ++ b ∷ []
    → flags ++ map f (judged_by (drop i units) (drop i results)) ≡ whole
    → new ++ map f (judged_by (drop (i + 1) units) (drop (i + 1) results)) ≡ whole
flags_more f units results i u r b flags new whole below within is made gives added so_far =
    let rest = map f (judged_by (drop (i + 1) units) (drop (i + 1) results)) in
    ap (λ zs. zs ++ rest) (added ∙ ap (λ z. flags ++ z ∷ []) gives)
    ∙ append_assoc flags (f (u, verdict_in r) ∷ []) rest
    ∙ ap (λ js. flags ++ map f js) (sym (judged_drop units results i u r below within is made)) ∙ so_far

pub flags_all : (f : Judged → Bool) (units : List WorkUnit) (results : List UnitResult) (i : ℕ)
    (flags whole : List Bool) → length units ≤ i
    → flags ++ map f (judged_by (drop i units) (drop i results)) ≡ whole → flags ≡ whole
flags_all f units results i flags whole ended so_far =
    sym (append-nil flags) ∙ ap (λ js. flags ++ map f js) (sym (judged_end units results i ended)) ∙ so_far

-- where the units are one group
mapped : (f : Verdict → Bool) (units : List WorkUnit) (results : List UnitResult) → length results ≡ length units
    → map (λ r. f (verdict_in r)) results ≡ map (λ (j : Judged). f j.1) (judged_by units results)
mapped f [] [] e = refl
mapped f [] (r ∷ rs) e = absurd (omega (arith, e))
mapped f (u ∷ us) [] e = absurd (omega (arith, e))
mapped f (u ∷ us) (r ∷ rs) e = ap (λ (bs : List Bool). f (verdict_in r) ∷ bs) (mapped f us rs (omega (arith, e)))

pub may_allows : (policy : CommitPolicy) (vs : List Verdict) (v : Verdict)
    → may_commit policy (list_all is_good vs) v ≡ allows policy vs v
may_allows Full vs v = refl
may_allows Successful vs v = refl

pub job_flags : (policy : CommitPolicy) (units : List WorkUnit) (results : List UnitResult) (flags : List Bool)
    → length results ≡ length units
    → flags ≡ map (λ r. may_commit policy (list_all is_good (verdicts_in results)) (verdict_in r)) results
    → flags ≡ map (is_committed scope.Job policy (judged_by units results)) (judged_by units results)
job_flags policy units results flags counted are =
    are
    ∙ (mapped (λ v. may_commit policy (list_all is_good (verdicts_in results)) v) units results counted
    ∙ same (judged_by units results))
  where
    verdicts : map (λ (k : Judged). k.1) (judged_by units results) ≡ verdicts_in results
    verdicts = zip_seconds units (verdicts_in results) (length_verdicts results ∙ counted)

    same : (js : List Judged)
        → map (λ (j : Judged). may_commit policy (list_all is_good (verdicts_in results)) j.1) js
        ≡ map (is_committed scope.Job policy (judged_by units results)) js
    same [] = refl
    same (j ∷ js) = λ i.
        (may_allows policy (verdicts_in results) j.1 ∙ ap (λ vs. allows policy vs j.1) (sym verdicts)) i ∷ same js i
