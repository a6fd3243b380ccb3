-- Groups of units that share no partition: the commit of one leaves the others fitting.
use Rattle.std.proofs.Common.{◌≡◌, ⊎_elim, ℕ, Bool, true, false, cond, ◌&&◌, List, [], ◌∷◌, map, refl, sym, ap, subst}
use Rattle.std.proofs.Common.{◌∙◌, unwrap_or, option_map}
use Rattle.std.specs.List.{Contains, filter, zip}
use Rattle.std.specs.Str.{bytes_eq}
use Rattle.gob_bytes.proofs.Tables.{two_names, same_name}
use Rattle.gob_bytes.specs.Tables.{Table, at_name}
use Rattle.gob_plan.specs.declared.plan.CommitPolicy.{CommitPolicy}
use Rattle.gob_plan.specs.declared.units.Unit.{Unit as WorkUnit}
use Rattle.gob_meaning.specs.Results.{Verdict}
use Rattle.gob_ledger.specs.Marks.{Marks}
use Rattle.gob_ledger.specs.State.{State, marks_at}
use Rattle.gob_ledger.specs.Units.{span_of, next_of, fresh_in, AreAdjacentFrom, UnitsFit}
use Rattle.gob_ledger.specs.Next.{Judged, allows, with_owed, with_done, change_part, add_unit, finish_unit, fold_units}
use Rattle.gob_ledger.specs.Next.{with_pipeline, pipeline_index, state_with_commit_or, allowed_units, next_state}
use Rattle.gob_ledger.specs.Laws.{OthersStillFit}
use Rattle.gob_ledger.proofs.Members.{none_in, first_in, later_in, in_cases, in_filter, in_map}
use Rattle.gob_ledger.proofs.Changes.{at_other, with-parts, units_in}
use Rattle.gob_ledger.proofs.Tiling.{distinct_filter, filter_units}

-- no unit of these is of the partition
abbrev pub Without : List ℕ → List Judged → Type 0
Without q js = (j : Judged) → Contains js j → bytes_eq q j.0.part ≡ false

adds_other : (js : List Judged) (s : State) (q : List ℕ) → Without q js
    → marks_at (fold_units add_unit s js) q ≡ marks_at s q
adds_other [] s q out = refl
adds_other (j ∷ js) s q out =
    adds_other js (add_unit s j) q (λ k h. out k (later_in j js k h))
    ∙ elim j.0.fresh as (λ b. marks_at (cond b (change_part (with_owed (span_of j.0)) j.0.part s) s) q ≡ marks_at s q) [
      | true ↦ at_other (with_owed (span_of j.0)) j.0.part s q (out j (first_in j js j refl))
      | false ↦ refl
    ]

finishes_other : (p : ℕ) (js : List Judged) (s : State) (q : List ℕ) → Without q js
    → marks_at (fold_units (finish_unit p) s js) q ≡ marks_at s q
finishes_other p [] s q out = refl
finishes_other p (j ∷ js) s q out =
    finishes_other p js (finish_unit p s j) q (λ k h. out k (later_in j js k h))
    ∙ at_other (with_done p (span_of j.0)) j.0.part s q (out j (first_in j js j refl))

committed_other : (s : State) (pipeline : List ℕ) (all done : List Judged) (q : List ℕ) → Without q all → Without q done
    → marks_at (state_with_commit_or s pipeline all done) q ≡ marks_at s q
committed_other s pipeline all [] q out less = refl
committed_other s pipeline all (d ∷ ds) q out less =
    finishes_other (pipeline_index pipeline s) (d ∷ ds) (fold_units add_unit (with_pipeline pipeline s) all) q less
    ∙ (adds_other all (with_pipeline pipeline s) q out ∙ ap (λ t. at_name t q) (with-parts pipeline s))

abbrev pub verdicts_in : List Judged → List Verdict
verdicts_in js = map (λ j. j.1) js

pub zip_parts : (js : List Judged) → zip (units_in js) (verdicts_in js) ≡ js
zip_parts [] = refl
zip_parts (j ∷ js) = ap (λ (ks : List Judged). j ∷ ks) (zip_parts js)

-- a partition of no unit stays as it is
pub next_other : (s : State) (pipeline : List ℕ) (group : List Judged) (policy : CommitPolicy) (q : List ℕ)
    → Without q group → marks_at (next_state s pipeline (units_in group) (verdicts_in group) policy) q ≡ marks_at s q
unfolding next_state
next_other s pipeline group policy q out =
    let all = zip (units_in group) (verdicts_in group) in
    let same = zip_parts group in
    committed_other s pipeline all (allowed_units policy all) q
    (λ j h. out j (subst (λ (js : List Judged). Contains js j) same h))
    (λ j h. out j (subst (λ (js : List Judged). Contains js j) same
    (in_filter (λ k. allows policy (map (λ (x : Judged). x.1) all) k.1) all j h).0))

filter_none : {X : Type 0} (p : X → Bool) (xs : List X) → ((x : X) → Contains xs x → p x ≡ false) → filter p xs ≡ []
filter_none p [] none = refl
filter_none p (x ∷ xs) none = ap (λ b. cond b (x ∷ filter p xs) (filter p xs)) (none x (first_in x xs x refl))
    ∙ filter_none p xs (λ y h. none y (later_in x xs y h))

and_false : (a b : Bool) → b ≡ false → (a && b) ≡ false
and_false true b e = e
and_false false b e = refl

some_or_without : (P : Type 0) (q : List ℕ) (js : List Judged) → ((j : Judged) → Contains js j → q ≡ j.0.part → P)
    → (Without q js → P) → P
some_or_without P q [] some out = out (λ j h. none_in j h)
some_or_without P q (j ∷ js) some out = cases (bytes_eq q j.0.part) refl
    (λ f. some_or_without P q js (λ k h. some k (later_in j js k h)) f)
  where
    cases : (b : Bool) → bytes_eq q j.0.part ≡ b → ((Without q js → P) → P) → P
    cases true is rest = some j (first_in j js j refl) (same_name q j.0.part is)
    cases false is rest = rest (λ f. out (λ k h. ⊎_elim (λ (e : j ≡ k).
        subst (λ (x : Judged). bytes_eq q x.0.part ≡ false) e is) (λ l. f k l) (in_cases j js k h)))

pub others_fit : OthersStillFit
others_fit s pipeline group others policy apart fit =
    let t = next_state s pipeline (units_in group) (verdicts_in group) policy in
    record {
      once = fit.once;
      owed = λ u h e.
          let o = fit.owed u h e in
          let k = in_map (λ (j : Judged). j.0) others u h in (
            o.0,
            next_other s pipeline group policy u.part (λ j m.
                two_names u.part j.0.part (λ same. apart j k.0 m k.1
                (sym same ∙ sym (ap (λ (x : WorkUnit). x.part) k.2)))) ∙ o.1,
            o.2,
          );
      fresh = λ q. some_or_without (AreAdjacentFrom (next_of t.parts q) (fresh_in q (units_in others))) q group
          (λ j m same. subst (λ (us : List WorkUnit). AreAdjacentFrom (next_of t.parts q) us)
          (sym (filter_none (λ u. u.fresh && bytes_eq u.part q) (units_in others)
          (λ u h. let k = in_map (λ (x : Judged). x.0) others u h in
          and_false u.fresh (bytes_eq u.part q) (two_names u.part q
          (λ e. apart j k.0 m k.1 (sym same ∙ (sym e ∙ sym (ap (λ (x : WorkUnit). x.part) k.2))))))))
          tt)
          (λ out. subst (λ (n : ℕ). AreAdjacentFrom n (fresh_in q (units_in others)))
          (sym (ap (λ o. unwrap_or (option_map (λ (m : Marks). m.next) o) 0)
          (next_other s pipeline group policy q out))) (fit.fresh q));
    }

-- ---- a group fits where all units do

abbrev pub of_parts : (List ℕ → Bool) → List Judged → List Judged
of_parts keep js = filter (λ j. keep j.0.part) js

kept_fresh : (keep : List ℕ → Bool) (q : List ℕ) → keep q ≡ true → (js : List Judged)
    → fresh_in q (units_in (of_parts keep js)) ≡ fresh_in q (units_in js)
kept_fresh keep q is [] = refl
kept_fresh keep q is (j ∷ js) = cases (keep j.0.part) refl (kept_fresh keep q is js)
  where
    cases : (b : Bool) → keep j.0.part ≡ b → fresh_in q (units_in (of_parts keep js)) ≡ fresh_in q (units_in js)
        → fresh_in q (units_in (cond (keep j.0.part) (j ∷ of_parts keep js) (of_parts keep js))) ≡ fresh_in q
        (units_in (j ∷ js))
    cases true e later = ap (λ b. fresh_in q (units_in (cond b (j ∷ of_parts keep js) (of_parts keep js)))) e
        ∙ ap (λ (us : List WorkUnit). cond (j.0.fresh && bytes_eq j.0.part q) (j.0 ∷ us) us) later
    cases false e later = ap (λ b. fresh_in q (units_in (cond b (j ∷ of_parts keep js) (of_parts keep js)))) e
        ∙ (later ∙ sym (ap (λ b. cond b (j.0 ∷ fresh_in q (units_in js)) (fresh_in q (units_in js)))
        (and_false j.0.fresh (bytes_eq j.0.part q) (two_names j.0.part q
        (λ same. let no : true ≡ false = sym is ∙ (sym (ap keep same) ∙ e) in cc)))))

dropped_fresh : (keep : List ℕ → Bool) (q : List ℕ) → keep q ≡ false → (js : List Judged)
    → fresh_in q (units_in (of_parts keep js)) ≡ []
dropped_fresh keep q is js = filter_none (λ u. u.fresh && bytes_eq u.part q) (units_in (of_parts keep js)) (λ u h.
    let k = in_map (λ (x : Judged). x.0) (of_parts keep js) u h in
    let f = in_filter (λ (x : Judged). keep x.0.part) js k.0 k.1 in
    and_false u.fresh (bytes_eq u.part q) (two_names u.part q (λ same.
    let no : true ≡ false = sym f.1 ∙ (ap (λ (x : WorkUnit). keep x.part) k.2 ∙ (ap keep same ∙ is)) in cc)))

pub group_fits : (parts : Table Marks) (keep : List ℕ → Bool) (js : List Judged) → UnitsFit parts (units_in js)
    → UnitsFit parts (units_in (of_parts keep js))
group_fits parts keep js fit = record {
  once = distinct_filter (λ j. keep j.0.part) js fit.once;
  owed = λ u h e. fit.owed u (filter_units (λ j. keep j.0.part) js u h) e;
  fresh = λ q. elim (keep q) as (λ b. keep q ≡ b → AreAdjacentFrom (next_of parts q)
      (fresh_in q (units_in (of_parts keep js)))) [
        | true ↦ λ e. subst (AreAdjacentFrom (next_of parts q)) (sym (kept_fresh keep q e js)) (fit.fresh q)
        | false ↦ λ e. subst (AreAdjacentFrom (next_of parts q)) (sym (dropped_fresh keep q e js)) tt
      ] refl;
}
