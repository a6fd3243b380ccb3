-- The state after a commit: marks and totals, unit by unit.
use Rattle.std.proofs.Common.{◌≡◌, ◌≢◌, ◌⊎◌, inl, inr, ⊎_elim, ℕ, zero, suc, ◌+◌, ◌<◌, ◌≤◌, ◌^◌, Bool, true, false}
use Rattle.std.proofs.Common.{cond, not, ◌&&◌, ◌||◌, List, [], ◌∷◌, ◌++◌, map, length, drop, get_or, append_assoc}
use Rattle.std.proofs.Common.{refl, sym, ap, subst, ◌∙◌, Some, None, option_map, unwrap_or, arith}
use Rattle.std.specs.declared.option.Option.{Option}
use Rattle.std.specs.List.{Contains, IsDistinct, filter, list_all, list_any, position_or_len}
use Rattle.std.specs.List.{range_with_len, zip}
use Rattle.std.specs.Str.{bytes_eq}
use Rattle.gob_bytes.proofs.Tables.{at-with_name, name_itself, same_name}
use Rattle.gob_bytes.specs.Tables.{Table, at_name}
use Rattle.gob_plan.specs.declared.plan.CommitPolicy.{CommitPolicy}
use Rattle.gob_plan.specs.declared.plan.CommitPolicy.TheVariants.{Full, Successful}
use Rattle.gob_plan.specs.declared.units.BranchCounts.{BranchCounts}
use Rattle.gob_plan.specs.declared.units.Counts.{Counts}
use Rattle.gob_plan.specs.declared.units.Unit.{Unit as WorkUnit}
use Rattle.gob_plan.specs.declared.units.UnitResult.{UnitResult}
use Rattle.gob_meaning.specs.Fold.{saturate_u64}
use Rattle.gob_meaning.specs.Results.{Verdict}
use Rattle.gob_meaning.specs.Sums.{branch_sums}
use Rattle.gob_ledger.specs.Laws.{ProperCounts}
use Rattle.gob_ledger.specs.Marks.{Marks}
use Rattle.gob_ledger.specs.Next.{Judged, add_unit, allowed_units, allows, counts_in, finish_unit, fold_units, is_good}
use Rattle.gob_ledger.specs.Next.{next_state, no_marks, pipeline_index, plus, state_with_commit, state_with_commit_or}
use Rattle.gob_ledger.specs.Next.{with_done, with_owed, with_pipeline}
use Rattle.gob_ledger.specs.Spelling.{IsKeptPipeline, Proper}
use Rattle.gob_ledger.specs.State.{State, TiledState, empty_state, no_branch_counts}
use Rattle.gob_ledger.specs.Units.{AreAdjacentFrom, IsOwed, UnitsFit, fresh_in, next_of, same_span, same_unit, span_of}
use Rattle.gob_ledger.proofs.Changes.{all_member, units_in, units_of_zip}
use Rattle.gob_ledger.proofs.Members.{first_in, in_cases, in_filter, in_map, later_in, none_in}
use Rattle.gob_ledger.proofs.Properly.{stays_proper}
use Rattle.gob_ledger.proofs.Merging.{span_any}
use Rattle.gob_ledger.proofs.Tiling.{all_added, finish_keeps}
use Rattle.gob_marks.specs.Changed.{change_marks, marks_in, next_span}
use Rattle.gob_state.proofs.SettingLemmas.{at_drop}
use Rattle.gob_state.proofs.WriteLemmas.{dropped_all}
use Rattle.gob_state.specs.Committed.{FreshUnitsFollow, AllOwed, AreKept, committed_units, judged_by, may_commit}
use Rattle.gob_state.specs.Committed.{part_added}
use Rattle.gob_state.specs.Committed.{parts_added, parts_finished, pipelines_with, totals_plus, totals_sum, verdict_in}
use Rattle.gob_state.specs.Committed.{verdicts_in}

-- ---- the branches of the first state

zeros_push : (a n : ℕ) → map (λ _. no_branch_counts) (range_with_len a (n + 1)) ≡ map (λ _. no_branch_counts)
    (range_with_len a n)
    ++ no_branch_counts ∷ []
zeros_push a n = ap (λ k. map (λ _. no_branch_counts) (range_with_len a k)) (let e : n + 1 ≡ suc n = omega arith in e)
    ∙ go a n
  where
    go : (a n : ℕ) → map (λ _. no_branch_counts) (range_with_len a (suc n)) ≡ map (λ _. no_branch_counts)
        (range_with_len a n)
        ++ no_branch_counts ∷ []
    go a zero = refl
    go a (suc n) = ap (λ (bs : List BranchCounts). no_branch_counts ∷ bs) (go (a + 1) n)

pub one_more_zero : (n : ℕ) (bs : List BranchCounts) → bs ≡ map (λ _. no_branch_counts) (range_with_len 0 n)
    → bs ++ no_branch_counts ∷ [] ≡ map (λ _. no_branch_counts) (range_with_len 0 (n + 1))
one_more_zero n bs is = ap (λ cs. cs ++ no_branch_counts ∷ []) is ∙ sym (zeros_push 0 n)

-- ---- fresh units

next_marks : (parts : Table Marks) (part : List ℕ) → next_of parts part ≡ (marks_in parts part).next
next_marks parts part = cases (at_name parts part)
  where
    cases : (o : Option Marks) → unwrap_or (option_map (λ m. m.next) o) 0 ≡ (unwrap_or o no_marks).next
    cases None = refl
    cases (Some m) = refl

turned : (x y : List ℕ) → bytes_eq x y ≡ false → bytes_eq y x ≡ false
turned x y e = cases (bytes_eq y x) refl
  where
    cases : (b : Bool) → bytes_eq y x ≡ b → b ≡ false
    cases false is = refl
    cases true is =
        let same = same_name y x is in
        sym (name_itself x) ∙ ap (λ z. bytes_eq x z) (sym same) ∙ e

-- the first of the fresh units of its partition
fresh_first : (u : WorkUnit) (us : List WorkUnit) (q : List ℕ) → u.fresh ≡ true → bytes_eq u.part q ≡ true
    → fresh_in q (u ∷ us) ≡ u ∷ fresh_in q us
fresh_first u us q fresh same = λ i. cond (fresh i && same i) (u ∷ fresh_in q us) (fresh_in q us)

not_fresh : (u : WorkUnit) (us : List WorkUnit) (q : List ℕ) → (u.fresh ≡ false) ⊎ (bytes_eq u.part q ≡ false)
    → fresh_in q (u ∷ us) ≡ fresh_in q us
not_fresh u us q (inl old) = ap (λ b. cond (b && bytes_eq u.part q) (u ∷ fresh_in q us) (fresh_in q us)) old
not_fresh u us q (inr other) = ap (λ b. cond (u.fresh && b) (u ∷ fresh_in q us) (fresh_in q us)) other ∙ off u.fresh
  where
    off : (b : Bool) → cond (b && false) (u ∷ fresh_in q us) (fresh_in q us) ≡ fresh_in q us
    off true = refl
    off false = refl

-- a fresh unit begins where its partition ends
pub begins_at_end : (parts : Table Marks) (u : WorkUnit) (us : List WorkUnit) → FreshUnitsFollow parts (u ∷ us)
    → u.fresh ≡ true
    → (u.lo ≡ (marks_in parts u.part).next) × (u.lo < u.hi)
begins_at_end parts u us adds fresh =
    let first = subst (AreAdjacentFrom (next_of parts u.part)) (fresh_first u us u.part fresh (name_itself u.part))
    (adds u.part) in
    (first.0 ∙ next_marks parts u.part, first.1)

pub added_fresh : (parts : Table Marks) (u : WorkUnit) (us : List WorkUnit) (new : Table Marks)
    → FreshUnitsFollow parts (u ∷ us)
    → u.fresh ≡ true → new ≡ change_marks (with_owed (next_span (marks_in parts u.part) u.hi)) u.part parts
    → new ≡ part_added parts u
added_fresh parts u us new adds fresh is =
    let at = begins_at_end parts u us adds fresh in
    is ∙ ap (λ k. change_marks (with_owed (record { lo = k; hi = u.hi })) u.part parts) (sym at.0)
    ∙ sym (ap (λ b. cond b (change_marks (with_owed (span_of u)) u.part parts) parts) fresh)

pub added_old : (parts : Table Marks) (u : WorkUnit) → u.fresh ≡ false → parts ≡ part_added parts u
added_old parts u old = sym (ap (λ b. cond b (change_marks (with_owed (span_of u)) u.part parts) parts) old)

next_after : (parts : Table Marks) (u : WorkUnit) (q : List ℕ)
    → next_of (change_marks (with_owed (span_of u)) u.part parts) q ≡ cond (bytes_eq q u.part) u.hi (next_of parts q)
next_after parts u q =
    ap (λ o. unwrap_or (option_map (λ (m : Marks). m.next) o) 0)
    (at-with_name parts u.part (with_owed (span_of u) (marks_in parts u.part)) q) ∙ cases (bytes_eq q u.part)
  where
    cases : (b : Bool) → unwrap_or (option_map (λ (m : Marks). m.next)
        (cond b (Some (with_owed (span_of u) (marks_in parts u.part))) (at_name parts q))) 0
        ≡ cond b u.hi (next_of parts q)
    cases true = refl
    cases false = refl

-- the units behind follow on
pub adds_next : (parts : Table Marks) (u : WorkUnit) (us : List WorkUnit) → FreshUnitsFollow parts (u ∷ us)
    → FreshUnitsFollow (part_added parts u) us
adds_next parts u us adds q = cases u.fresh refl
  where
    there : (c : Bool) → bytes_eq q u.part ≡ c → u.fresh ≡ true
        → AreAdjacentFrom (cond c u.hi (next_of parts q)) (fresh_in q us)
    there true same fresh =
        let both = ap (λ x. bytes_eq u.part x) (same_name q u.part same) ∙ name_itself u.part in
        (subst (AreAdjacentFrom (next_of parts q)) (fresh_first u us q fresh both) (adds q)).2
    there false other fresh =
        subst (AreAdjacentFrom (next_of parts q)) (not_fresh u us q (inr (turned q u.part other))) (adds q)

    cases : (b : Bool) → u.fresh ≡ b
        → AreAdjacentFrom (next_of (cond b (change_marks (with_owed (span_of u)) u.part parts) parts) q) (fresh_in q us)
    cases true fresh =
        subst (λ n. AreAdjacentFrom n (fresh_in q us)) (sym (next_after parts u q))
        (there (bytes_eq q u.part) refl fresh)
    cases false old = subst (AreAdjacentFrom (next_of parts q)) (not_fresh u us q (inl old)) (adds q)

-- some of the units are added
pub record Adding (first parts : Table Marks) (units : List WorkUnit) (i : ℕ) : Type 0 where
  pub same : parts_added parts (drop i units) ≡ parts_added first units
  pub adds : FreshUnitsFollow parts (drop i units)

pub one_added : (first parts new : Table Marks) (units : List WorkUnit) (i : ℕ) (u : WorkUnit)
    → Adding first parts units i
    → i < length units → u ≡ get_or units i u → new ≡ part_added parts u → Adding first new units (i + 1)
one_added first parts new units i u a below is new_is =
    let rest = at_drop units i u below is in
    subst (λ (t : Table Marks). Adding first t units (i + 1)) (sym new_is) (record {
      same = sym (ap (parts_added parts) rest) ∙ a.same;
      adds = adds_next parts u (drop (i + 1) units) (subst (FreshUnitsFollow parts) rest a.adds);
    })

pub fresh_begins : (first parts : Table Marks) (units : List WorkUnit) (i : ℕ) (u : WorkUnit)
    → Adding first parts units i
    → i < length units → u ≡ get_or units i u → u.fresh ≡ true → (u.lo ≡ (marks_in parts u.part).next) × (u.lo < u.hi)
fresh_begins first parts units i u a below is fresh =
    begins_at_end parts u (drop (i + 1) units) (subst (FreshUnitsFollow parts) (at_drop units i u below is) a.adds)
    fresh

pub fresh_added : (first parts new : Table Marks) (units : List WorkUnit) (i : ℕ) (u : WorkUnit)
    → Adding first parts units i
    → i < length units → u ≡ get_or units i u → u.fresh ≡ true
    → new ≡ change_marks (with_owed (next_span (marks_in parts u.part) u.hi)) u.part parts → Adding first new units
    (i + 1)
fresh_added first parts new units i u a below is fresh made =
    one_added first parts new units i u a below is
    (added_fresh parts u (drop (i + 1) units) new (subst (FreshUnitsFollow parts) (at_drop units i u below is) a.adds)
    fresh made)

pub old_added : (first parts : Table Marks) (units : List WorkUnit) (i : ℕ) (u : WorkUnit) → Adding first parts units i
    → i < length units → u ≡ get_or units i u → u.fresh ≡ false → Adding first parts units (i + 1)
old_added first parts units i u a below is old = one_added first parts parts units i u a below is
    (added_old parts u old)

-- ---- done units

-- the parts and the totals of a state
abbrev with_parts : Table Marks → State → State
with_parts parts s = record s { parts = parts }

keeps_owed : (p : ℕ) (parts : Table Marks) (j : Judged) (k : WorkUnit) → same_unit j.0 k ≡ false → IsOwed parts k
    → IsOwed (change_marks (with_done p (span_of j.0)) j.0.part parts) k
keeps_owed p parts j k apart owed = finish_keeps p
    (record {
      run = 0;
      pipelines = [];
      totals = record {
        records = 0;
        bad = 0;
        rows = 0;
        unrouted = 0;
        branches =
            [];
      };
      parts = parts;
    }) j k apart owed

fold_adds : (js : List Judged) (s : State) → fold_units add_unit s js ≡ with_parts (parts_added s.parts (units_in js)) s
fold_adds [] s = refl
fold_adds (j ∷ js) s = fold_adds js (add_unit s j) ∙ cases j.0.fresh
  where
    cases : (b : Bool)
        → with_parts
        (parts_added (cond b (with_parts (change_marks (with_owed (span_of j.0)) j.0.part s.parts) s) s).parts
        (units_in js))
        (cond b (with_parts (change_marks (with_owed (span_of j.0)) j.0.part s.parts) s) s)
        ≡ with_parts (parts_added (cond b (change_marks (with_owed (span_of j.0)) j.0.part s.parts) s.parts)
        (units_in js)) s
    cases true = refl
    cases false = refl

fold_finishes : (p : ℕ) (js : List Judged) (s : State) → fold_units (finish_unit p) s js
    ≡ record s { totals = totals_plus s.totals js; parts = parts_finished p s.parts js }
fold_finishes p [] s = refl
fold_finishes p (j ∷ js) s = fold_finishes p js (finish_unit p s j)

-- ---- which units are committed

second_of : (units : List WorkUnit) (vs : List Verdict) → length vs ≡ length units → map (λ (k : Judged). k.1)
    (zip units vs) ≡ vs
second_of [] [] e = refl
second_of [] (v ∷ vs) e = absurd (omega arith)
second_of (u ∷ us) [] e = absurd (omega arith)
second_of (u ∷ us) (v ∷ vs) e = ap (λ (ws : List Verdict). v ∷ ws) (second_of us vs (omega arith))

allowed_are : (policy : CommitPolicy) (units : List WorkUnit) (vs : List Verdict) → length vs ≡ length units
    → allowed_units policy (zip units vs) ≡ committed_units policy (list_all is_good vs) (zip units vs)
allowed_are Full units vs e = ap (λ (ws : List Verdict). filter (λ (j : Judged). list_all is_good ws) (zip units vs))
    (second_of units vs e)
allowed_are Successful units vs e = refl

-- none may be committed
none_committed : (policy : CommitPolicy) (all : Bool) (units : List WorkUnit) (vs : List Verdict)
    → list_any (may_commit policy all) vs ≡ false → committed_units policy all (zip units vs) ≡ []
none_committed policy all [] vs e = refl
none_committed policy all (u ∷ us) [] e = refl
none_committed policy all (u ∷ us) (v ∷ vs) e = cases (may_commit policy all v) e (none_committed policy all us vs)
  where
    cases : (b : Bool) → (b || list_any (may_commit policy all) vs) ≡ false
        → (list_any (may_commit policy all) vs ≡ false → committed_units policy all (zip us vs) ≡ [])
        → cond b ((u, v) ∷ committed_units policy all (zip us vs)) (committed_units policy all (zip us vs)) ≡ []
    cases true is later = let never : true ≡ false = is in cc
    cases false is later = later is

some_committed : (policy : CommitPolicy) (all : Bool) (units : List WorkUnit) (vs : List Verdict) → length vs
    ≡ length units
    → list_any (may_commit policy all) vs ≡ true → committed_units policy all (zip units vs) ≢ []
some_committed policy all [] [] e any none = let never : false ≡ true = any in cc
some_committed policy all [] (v ∷ vs) e any none = absurd (omega arith)
some_committed policy all (u ∷ us) [] e any none = absurd (omega arith)
some_committed policy all (u ∷ us) (v ∷ vs) e any none =
    cases (may_commit policy all v) any none (some_committed policy all us vs (omega arith))
  where
    cases : (b : Bool) → (b || list_any (may_commit policy all) vs) ≡ true
        → cond b ((u, v) ∷ committed_units policy all (zip us vs)) (committed_units policy all (zip us vs)) ≡ []
        → (list_any (may_commit policy all) vs ≡ true → committed_units policy all (zip us vs) ≢ []) → ⊥
    cases true is none later = cc
    cases false is none later = later is none

totals_by : (policy : CommitPolicy) (all : Bool) (units : List WorkUnit) (vs : List Verdict) (c : Counts) → length vs
    ≡ length units
    → totals_plus c (committed_units policy all (zip units vs)) ≡ totals_sum c (filter (may_commit policy all) vs)
totals_by policy all [] [] c e = refl
totals_by policy all [] (v ∷ vs) c e = absurd (omega arith)
totals_by policy all (u ∷ us) [] c e = absurd (omega arith)
totals_by policy all (u ∷ us) (v ∷ vs) c e =
    cases (may_commit policy all v) (λ d. totals_by policy all us vs d (omega arith))
  where
    cases : (b : Bool) → ((d : Counts) → totals_plus d (committed_units policy all (zip us vs)) ≡ totals_sum d
        (filter (may_commit policy all) vs))
        → totals_plus c (cond b ((u, v) ∷ committed_units policy all (zip us vs))
        (committed_units policy all (zip us vs)))
        ≡ totals_sum c (cond b (v ∷ filter (may_commit policy all) vs) (filter (may_commit policy all) vs))
    cases true later = later (plus c (counts_in v))
    cases false later = later c

pub length_verdicts : (results : List UnitResult) → length (verdicts_in results) ≡ length results
length_verdicts [] = refl
length_verdicts (r ∷ rs) = ap suc (length_verdicts rs)

-- ---- the next state

with_pipeline_is : (p : List ℕ) (s : State) → with_pipeline p s ≡ record s { pipelines = pipelines_with p s.pipelines }
with_pipeline_is p s = cases (list_any (bytes_eq p) s.pipelines)
  where
    cases : (b : Bool) → cond b s (record s { pipelines = s.pipelines ++ p ∷ [] })
        ≡ record s { pipelines = cond b s.pipelines (s.pipelines ++ p ∷ []) }
    cases true = refl
    cases false = refl

-- where no unit may be committed the state stays
pub state_stays : (s : State) (pipeline : List ℕ) (units : List WorkUnit) (results : List UnitResult)
    (policy : CommitPolicy)
    → length results ≡ length units
    → list_any (may_commit policy (list_all is_good (verdicts_in results))) (verdicts_in results) ≡ false
    → next_state s pipeline units (verdicts_in results) policy ≡ s
unfolding next_state
state_stays s pipeline units results policy counted none =
    ap (state_with_commit_or s pipeline (judged_by units results))
    (allowed_are policy units (verdicts_in results) (length_verdicts results ∙ counted)
    ∙ none_committed policy (list_all is_good (verdicts_in results)) units (verdicts_in results) none)

-- what the next state is made of
abbrev pub next_of_parts : State → List ℕ → List WorkUnit → List UnitResult → CommitPolicy → Bool → State
next_of_parts s pipeline units results policy all = record {
  run = saturate_u64 (s.run + 1);
  pipelines = pipelines_with pipeline s.pipelines;
  totals = totals_sum s.totals (filter (may_commit policy all) (verdicts_in results));
  parts = parts_finished (pipeline_index pipeline s) (parts_added s.parts units)
      (committed_units policy all (judged_by units results));
}

pub state_goes_on : (s : State) (pipeline : List ℕ) (units : List WorkUnit) (results : List UnitResult)
    (policy : CommitPolicy)
    → length results ≡ length units
    → list_any (may_commit policy (list_all is_good (verdicts_in results))) (verdicts_in results) ≡ true
    → next_state s pipeline units (verdicts_in results) policy
    ≡ next_of_parts s pipeline units results policy (list_all is_good (verdicts_in results))
unfolding next_state
state_goes_on s pipeline units results policy counted any =
    ap (state_with_commit_or s pipeline (judged_by units results))
    (allowed_are policy units (verdicts_in results) same)
    ∙ cases (committed_units policy all (judged_by units results)) refl
  where
    all : Bool
    all = list_all is_good (verdicts_in results)

    same : length (verdicts_in results) ≡ length units
    same = length_verdicts results ∙ counted

    made : (done : List Judged) → committed_units policy (list_all is_good (verdicts_in results))
        (judged_by units results)
        ≡ done
        → state_with_commit s pipeline (judged_by units results) done
        ≡ next_of_parts s pipeline units results policy (list_all is_good (verdicts_in results))
    made done is =
        let w : State = record s { pipelines = pipelines_with pipeline s.pipelines } in
        let p : ℕ = pipeline_index pipeline s in
        let added : fold_units add_unit (with_pipeline pipeline s) (judged_by units results) ≡ with_parts
        (parts_added s.parts units) w =
        ap (λ t. fold_units add_unit t (judged_by units results)) (with_pipeline_is pipeline s)
        ∙ fold_adds (judged_by units results) w
        ∙ ap (λ us. with_parts (parts_added s.parts us) w) (units_of_zip units (verdicts_in results) same) in
        let finished = ap (λ t. fold_units (finish_unit p) t done) added
        ∙ fold_finishes p done (with_parts (parts_added s.parts units) w) in
        ap (λ (t : State). record t { run = saturate_u64 (s.run + 1) }) finished
        ∙ (λ i. record {
          run = saturate_u64 (s.run + 1);
          pipelines = pipelines_with pipeline s.pipelines;
          totals = (ap (totals_plus s.totals) (sym is) ∙ totals_by policy (list_all is_good (verdicts_in results)) units
              (verdicts_in results) s.totals same) i;
          parts = parts_finished p (parts_added s.parts units) (sym is i);
        })

    cases : (done : List Judged) → committed_units policy (list_all is_good (verdicts_in results))
        (judged_by units results)
        ≡ done
        → state_with_commit_or s pipeline (judged_by units results)
        (committed_units policy (list_all is_good (verdicts_in results)) (judged_by units results))
        ≡ next_of_parts s pipeline units results policy (list_all is_good (verdicts_in results))
    cases [] is = absurd (some_committed policy (list_all is_good (verdicts_in results)) units
        (verdicts_in results) same any is)
    cases (d ∷ ds) is = ap (state_with_commit_or s pipeline (judged_by units results)) is ∙ made (d ∷ ds) is

-- the units of a run are owed once the fresh ones are added
pub run_is_owed : (s : State) (units : List WorkUnit) (vs : List Verdict) → length vs ≡ length units → TiledState s
    → UnitsFit s.parts units → AllOwed (parts_added s.parts units) units
run_is_owed s units vs e tiled fit u h = cases u.fresh refl
  where
    js : List Judged
    js = zip units vs

    same : units_in (zip units vs) ≡ units
    same = units_of_zip units vs e

    parts : (fold_units add_unit s (zip units vs)).parts ≡ parts_added s.parts units
    parts = ap (λ (t : State). t.parts) (fold_adds (zip units vs) s) ∙ ap (parts_added s.parts) same

    cases : (b : Bool) → u.fresh ≡ b → IsOwed (parts_added s.parts units) u
    cases true fresh =
        let all = all_added (zip units vs) s tiled
        (λ q. subst (λ us. AreAdjacentFrom (next_of s.parts q) (fresh_in q us)) (sym same) (fit.fresh q)) in
        subst (λ t. IsOwed t u) parts (all.owes u (subst (λ us. Contains us u) (sym same) h) fresh)
    cases false old =
        let all = all_added (zip units vs) s tiled
        (λ q. subst (λ us. AreAdjacentFrom (next_of s.parts q) (fresh_in q us)) (sym same) (fit.fresh q)) in
        subst (λ t. IsOwed t u) parts (all.keeps u (fit.owed u h old))

-- ---- pipelines

pub other_place : (p : List ℕ) (ps : List (List ℕ)) (i : ℕ) (q : List ℕ) → i < length ps → q ≡ get_or ps i q
    → position_or_len (bytes_eq p) ps ≡ i + position_or_len (bytes_eq p) (drop i ps) → bytes_eq p q ≡ false
    → position_or_len (bytes_eq p) ps ≡ (i + 1) + position_or_len (bytes_eq p) (drop (i + 1) ps)
other_place p ps i q below is inv fails =
    let here : position_or_len (bytes_eq p) (drop i ps) ≡ 1 + position_or_len (bytes_eq p) (drop (i + 1) ps) =
    ap (position_or_len (bytes_eq p)) (at_drop ps i q below is)
    ∙ ap (λ b. cond (not b) (1 + position_or_len (bytes_eq p) (drop (i + 1) ps)) 0) fails in
    omega arith

pub its_place : (p : List ℕ) (ps : List (List ℕ)) (i : ℕ) (q : List ℕ) → i < length ps → q ≡ get_or ps i q
    → position_or_len (bytes_eq p) ps ≡ i + position_or_len (bytes_eq p) (drop i ps) → bytes_eq p q ≡ true
    → i ≡ position_or_len (bytes_eq p) ps
its_place p ps i q below is inv holds =
    let here : position_or_len (bytes_eq p) (drop i ps) ≡ 0 =
    ap (position_or_len (bytes_eq p)) (at_drop ps i q below is)
    ∙ ap (λ b. cond (not b) (1 + position_or_len (bytes_eq p) (drop (i + 1) ps)) 0) holds in
    omega arith

-- a place behind all is that of none
pub none_there : (p : List ℕ) (ps : List (List ℕ)) → length ps ≤ position_or_len (bytes_eq p) ps
    → list_any (bytes_eq p) ps ≡ false
none_there p [] e = refl
none_there p (q ∷ qs) e = cases (bytes_eq p q) e (none_there p qs)
  where
    cases : (b : Bool) → suc (length qs) ≤ cond (not b) (1 + position_or_len (bytes_eq p) qs) 0
        → (length qs ≤ position_or_len (bytes_eq p) qs → list_any (bytes_eq p) qs ≡ false)
        → (b || list_any (bytes_eq p) qs) ≡ false
    cases true is later = absurd (omega arith)
    cases false is later = later (omega arith)

pub one_there : (p : List ℕ) (ps : List (List ℕ)) → position_or_len (bytes_eq p) ps < length ps
    → list_any (bytes_eq p) ps ≡ true
one_there p [] e = absurd (omega arith)
one_there p (q ∷ qs) e = cases (bytes_eq p q) e (one_there p qs)
  where
    cases : (b : Bool) → cond (not b) (1 + position_or_len (bytes_eq p) qs) 0 < suc (length qs)
        → (position_or_len (bytes_eq p) qs < length qs → list_any (bytes_eq p) qs ≡ true)
        → (b || list_any (bytes_eq p) qs) ≡ true
    cases true is later = refl
    cases false is later = later (omega arith)

-- ---- branches added up

pub one_at : (a b : List BranchCounts) (i : ℕ) (x : BranchCounts) → drop i a ≡ x ∷ drop (i + 1) a → length b ≤ i
    → branch_sums (drop i a) (drop i b) ≡ x ∷ branch_sums (drop (i + 1) a) (drop (i + 1) b)
one_at a b i x here past =
    (λ j. branch_sums (here j) (dropped_all b i past j))
    ∙ ap (λ xs. x ∷ xs) (sym (alone (drop (i + 1) a))
    ∙ ap (branch_sums (drop (i + 1) a)) (sym (dropped_all b (i + 1) (omega arith))))
  where
    alone : (xs : List BranchCounts) → branch_sums xs [] ≡ xs
    alone [] = refl
    alone (y ∷ xs) = refl

pub one_summed_more : (a b sums : List BranchCounts) (all : List BranchCounts) (i : ℕ) (x : BranchCounts)
    → branch_sums (drop i a) (drop i b) ≡ x ∷ branch_sums (drop (i + 1) a) (drop (i + 1) b)
    → sums ++ branch_sums (drop i a) (drop i b) ≡ all
    → (sums ++ x ∷ []) ++ branch_sums (drop (i + 1) a) (drop (i + 1) b) ≡ all
one_summed_more a b sums all i x here inv =
    append_assoc sums (x ∷ []) (branch_sums (drop (i + 1) a) (drop (i + 1) b)) ∙ ap (λ xs. sums ++ xs) (sym here) ∙ inv

-- ---- units that are done, one by one

-- some of the units are finished
pub record Finishing (p : ℕ) (policy : CommitPolicy) (all : Bool) (first parts : Table Marks) (units : List WorkUnit)
    (results : List UnitResult) (i : ℕ) : Type 0 where
  pub same : parts_finished p parts (committed_units policy all (judged_by (drop i units) (drop i results)))
      ≡ parts_finished p first (committed_units policy all (judged_by units results))
  pub owed : AllOwed parts (drop i units)
  pub once : IsDistinct same_unit (drop i units)

judged_at : (units : List WorkUnit) (results : List UnitResult) (i : ℕ) (u : WorkUnit) (r : UnitResult)
    → i < length units → i < length results → u ≡ get_or units i u → r ≡ get_or results i r
    → judged_by (drop i units) (drop i results) ≡ (u, verdict_in r) ∷ judged_by (drop (i + 1) units)
    (drop (i + 1) results)
judged_at units results i u r bu br iu ir =
    λ j. judged_by (at_drop units i u bu iu j) (at_drop results i r br ir j)

pub passed_over : (p : ℕ) (policy : CommitPolicy) (all : Bool) (first parts : Table Marks) (units : List WorkUnit)
    (results : List UnitResult) (i : ℕ) (u : WorkUnit) (r : UnitResult)
    → Finishing p policy all first parts units results i
    → i < length units → i < length results → u ≡ get_or units i u → r ≡ get_or results i r
    → may_commit policy all (verdict_in r) ≡ false → Finishing p policy all first parts units results (i + 1)
unfolding IsDistinct
passed_over p policy all first parts units results i u r f bu br iu ir fails =
    let js : List Judged = judged_by (drop (i + 1) units) (drop (i + 1) results) in
    let rest = at_drop units i u bu iu in
    record {
      same = sym (ap (λ b. parts_finished p parts (cond b ((u, verdict_in r) ∷ committed_units policy all js)
          (committed_units policy all js))) fails)
          ∙ sym (ap (λ ks. parts_finished p parts (committed_units policy all ks))
          (judged_at units results i u r bu br iu ir)) ∙ f.same;
      owed = λ k h. f.owed k (subst (λ us. Contains us k) (sym rest) (later_in u (drop (i + 1) units) k h));
      once = (subst (IsDistinct same_unit) rest f.once).1;
    }

some_at : {X : Type 0} (xs : List X) (i : ℕ) → i < length xs → (x : X) × (x ≡ get_or xs i x)
some_at [] i below = absurd (omega arith)
some_at (x ∷ xs) zero below = (x, refl)
some_at (x ∷ xs) (suc i) below = some_at xs i (omega arith)

pub passed_by : (p : ℕ) (policy : CommitPolicy) (all : Bool) (first parts : Table Marks) (units : List WorkUnit)
    (results : List UnitResult) (i : ℕ) (r : UnitResult) → Finishing p policy all first parts units results i
    → i < length units → i < length results → r ≡ get_or results i r
    → may_commit policy all (verdict_in r) ≡ false → Finishing p policy all first parts units results (i + 1)
passed_by p policy all first parts units results i r f bu br ir fails =
    let u = some_at units i bu in
    passed_over p policy all first parts units results i u.0 r f bu br u.1 ir fails

pub one_finished : (p : ℕ) (policy : CommitPolicy) (all : Bool) (first parts new : Table Marks) (units : List WorkUnit)
    (results : List UnitResult) (i : ℕ) (u : WorkUnit) (r : UnitResult)
    → Finishing p policy all first parts units results i
    → i < length units → i < length results → u ≡ get_or units i u → r ≡ get_or results i r
    → may_commit policy all (verdict_in r) ≡ true
    → new ≡ change_marks (with_done p (span_of u)) u.part parts → Finishing p policy all first new units results (i + 1)
unfolding IsDistinct
one_finished p policy all first parts new units results i u r f bu br iu ir holds made =
    let js : List Judged = judged_by (drop (i + 1) units) (drop (i + 1) results) in
    let rest = at_drop units i u bu iu in
    let apart = (subst (IsDistinct same_unit) rest f.once).0 in
    subst (λ t. Finishing p policy all first t units results (i + 1)) (sym made) (record {
      same = sym (ap (λ b. parts_finished p parts (cond b ((u, verdict_in r) ∷ committed_units policy all js)
          (committed_units policy all js))) holds)
          ∙ sym (ap (λ ks. parts_finished p parts (committed_units policy all ks))
          (judged_at units results i u r bu br iu ir)) ∙ f.same;
      owed = λ k h. keeps_owed p parts (u, verdict_in r) k (all_member (λ v. same_unit u v ≡ false)
          (drop (i + 1) units) k apart h)
          (f.owed k (subst (λ us. Contains us k) (sym rest) (later_in u (drop (i + 1) units) k h)));
      once = (subst (IsDistinct same_unit) rest f.once).1;
    })

-- the unit at this place is owed
pub owed_here : (p : ℕ) (policy : CommitPolicy) (all : Bool) (first parts : Table Marks) (units : List WorkUnit)
    (results : List UnitResult) (i : ℕ) (u : WorkUnit) → Finishing p policy all first parts units results i
    → i < length units → u ≡ get_or units i u → list_any (same_span (span_of u)) (marks_in parts u.part).owed ≡ true
owed_here p policy all first parts units results i u f below is =
    let o = f.owed u (subst (λ us. Contains us u) (sym (at_drop units i u below is))
    (first_in u (drop (i + 1) units) u refl)) in
    span_any (span_of u) (marks_in parts u.part).owed
    (subst (λ (m : Marks). Contains m.owed (span_of u)) (sym (ap (λ x. unwrap_or x no_marks) o.1)) o.2)

-- ---- the next state is proper

zip_second_in : (units : List WorkUnit) (vs : List Verdict) (j : Judged) → Contains (zip units vs) j → Contains vs j.1
zip_second_in [] vs j h = none_in j h
zip_second_in (u ∷ us) [] j h = none_in j h
zip_second_in (u ∷ us) (v ∷ vs) j h = ⊎_elim
    (λ e. first_in v vs j.1 (ap (λ (k : Judged). k.1) e))
    (λ k. later_in v vs j.1 (zip_second_in us vs j k))
    (in_cases (u, v) (zip us vs) j h)

pub next_proper : (s : State) (pipeline : List ℕ) (units : List WorkUnit) (results : List UnitResult)
    (policy : CommitPolicy) (t : State)
    → Proper s → length results ≡ length units → UnitsFit s.parts units → IsKeptPipeline pipeline
    → AreKept units results
    → t ≡ next_state s pipeline units (verdicts_in results) policy → length t.pipelines < 2 ^ 64 → Proper t
next_proper s pipeline units results policy t proper counted fit kept are is few =
    subst Proper (sym is) (stays_proper s pipeline units (verdicts_in results) policy (length_verdicts results
    ∙ counted) proper kept
    (subst (λ (x : State). length x.pipelines < 2 ^ 64) is few) fit are.proper counts)
  where
    counts : (j : Judged) (c : Counts) → Contains (allowed_units policy (zip units (verdicts_in results))) j
        → counts_in j.1 ≡ Some c → ProperCounts c
    counts j c h e =
        let there =
        (in_filter (λ (k : Judged). allows policy (map (λ (x : Judged). x.1) (zip units (verdicts_in results))) k.1)
        (zip units (verdicts_in results)) j h).0 in
        let r = in_map verdict_in results j.1 (zip_second_in units (verdicts_in results) j there) in
        are.counted r.0 c r.1 (ap counts_in r.2 ∙ e)

-- the state that is made is the next one
pub next_made : (s : State) (pipeline : List ℕ) (units : List WorkUnit) (results : List UnitResult)
    (policy : CommitPolicy) (all any : Bool) (place run : ℕ) (slice ps : List (List ℕ)) (totals : Counts)
    (marks added finished : Table Marks) → length results ≡ length units
    → all ≡ list_all is_good (verdicts_in results) → any ≡ list_any (may_commit policy all) (verdicts_in results)
    → any ≡ true → slice ≡ s.pipelines → place ≡ position_or_len (bytes_eq pipeline) slice
    → ps ≡ pipelines_with pipeline s.pipelines
    → totals ≡ totals_sum s.totals (filter (may_commit policy all) (verdicts_in results)) → marks ≡ s.parts
    → added ≡ parts_added marks units
    → finished ≡ parts_finished place added (committed_units policy all (judged_by units results))
    → run ≡ saturate_u64 (s.run + 1)
    → record { run = run; pipelines = ps; totals = totals; parts = finished }
    ≡ next_state s pipeline units (verdicts_in results) policy
next_made s pipeline units results policy all any place run slice ps totals marks added finished counted is_all is_any
    some sliced placed piped summed copied adding finishing running =
    let whole = list_all is_good (verdicts_in results) in
    let index : place ≡ pipeline_index pipeline s = placed ∙ ap (position_or_len (bytes_eq pipeline)) sliced in
    let sums = summed ∙ ap (λ a. totals_sum s.totals (filter (may_commit policy a) (verdicts_in results))) is_all in
    let adds = adding ∙ ap (λ t. parts_added t units) copied in
    let ends : finished ≡ parts_finished (pipeline_index pipeline s) (parts_added s.parts units)
    (committed_units policy whole (judged_by units results)) =
    finishing ∙ (λ j. parts_finished (index j) (adds j) (committed_units policy (is_all j) (judged_by units results)))
    in
    (λ j. record { run = running j; pipelines = piped j; totals = sums j; parts = ends j })
    ∙ sym (state_goes_on s pipeline units results policy counted
    (ap (λ a. list_any (may_commit policy a) (verdicts_in results)) (sym is_all) ∙ sym is_any ∙ some))

-- the first state, as it is made
pub empty_made : (branches counter : ℕ) (pipelines : List (List ℕ)) (counts : List BranchCounts) (parts : Table Marks)
    → counter ≡ branches → pipelines ≡ [] → counts ≡ map (λ _. no_branch_counts) (range_with_len 0 counter) → parts ≡ []
    → record {
      run = 0;
      pipelines = pipelines;
      totals = record { records = 0; bad = 0; rows = 0; unrouted = 0; branches = counts };
      parts = parts;
    } ≡ empty_state branches
empty_made branches counter pipelines counts parts all none zeros nothing =
    let level = zeros ∙ ap (λ n. map (λ (_ : ℕ). no_branch_counts) (range_with_len 0 n)) all in
    λ i. record {
      run = 0;
      pipelines = none i;
      totals = record { records = 0; bad = 0; rows = 0; unrouted = 0; branches = level i };
      parts = nothing i;
    }
