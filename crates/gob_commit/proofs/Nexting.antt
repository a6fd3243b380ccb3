-- The state behind a group's commit, and what is kept of it.
use Rattle.std.proofs.Common.{◌≡◌, ◌≢◌, ⊎_elim, ℕ, ◌+◌, ◌^◌, ◌<◌, ◌≤◌, Bool, true, false, cond, ◌||◌, nat_eq}
use Rattle.std.proofs.Common.{nat_le}
use Rattle.std.proofs.Common.{List, [], ◌∷◌, ◌++◌, map, length, refl, sym, ap, subst, ◌∙◌, arith, Some, None, IfSome}
use Rattle.std.proofs.Common.{eq-eqb, length-append}
use Rattle.std.specs.declared.option.Option.{Option}
use Rattle.std.specs.List.{Contains, filter, list_all, list_any}
use Rattle.gob_plan.specs.declared.plan.CommitPolicy.{CommitPolicy}
use Rattle.gob_plan.specs.declared.units.Unit.{Unit as WorkUnit}
use Rattle.gob_plan.specs.declared.units.UnitResult.{UnitResult}
use Rattle.gob_meaning.specs.Fold.{saturate_u64}
use Rattle.gob_meaning.specs.Job.{Job}
use Rattle.gob_meaning.specs.Results.{Verdict}
use Rattle.gob_ledger.specs.Delta.{Kept, StateFollows, base_alone, change_of, changes_in, kept_next, last_run}
use Rattle.gob_ledger.specs.Delta.{small_change, state_of, version_in, wants_whole, whole_change, earlier_changes}
use Rattle.gob_ledger.specs.Next.{Judged, allowed_units, allows, is_good, next_state}
use Rattle.gob_ledger.specs.Spelling.{Proper, Version, version_1, version_2, version_number}
use Rattle.gob_ledger.specs.State.{State, empty_state}
use Rattle.gob_ledger.specs.Units.{UnitsFit}
use Rattle.gob_ledger.proofs.Following.{follows_next}
use Rattle.gob_ledger.proofs.Members.{filter_in, first_in, in_cases, in_map, later_in, map_in, none_in}
use Rattle.gob_history.specs.Laws.{change_over}
use Rattle.gob_history.specs.Runs.{next_of_group, state_or_empty}
use Rattle.gob_segments.specs.Changes.{CountsChanges}
use Rattle.gob_state.specs.Committed.{judged_by, may_commit, verdicts_in}
use Rattle.gob_state.proofs.NextLemmas.{length_verdicts, state_goes_on}
use Rattle.gob_commit.specs.declared.rules.CommitRules.{CommitRules}
use Rattle.gob_segments.specs.Loading.{IsLoaded}
use Rattle.gob_commit.specs.Staged.{HasRules, state_or}
use Rattle.gob_commit.proofs.Doing.{next_state_kept}
use Rattle.gob_commit.proofs.Joining.{zip_firsts, zip_seconds}
use Rattle.gob_commit.proofs.Judging.{may_allows}

-- ---- whether a unit is allowed

some_passes : {X : Type 0} (p : X → Bool) (xs : List X) → list_any p xs ≡ true → (x : X) × Contains xs x × (p x ≡ true)
some_passes p [] any = let no : false ≡ true = any in cc
some_passes {X} p (x ∷ xs) any = cases (p x) refl any (some_passes p xs)
  where
    cases : (b : Bool) → p x ≡ b → (b || list_any p xs) ≡ true
        → (list_any p xs ≡ true → (y : X) × Contains xs y × (p y ≡ true))
        → (y : X) × Contains (x ∷ xs) y × (p y ≡ true)
    cases true is e later = (x, first_in x xs x refl, is)
    cases false is e later = let found = later e in (found.0, later_in x xs found.0 found.1, found.2)

none_passes : {X : Type 0} (p : X → Bool) (xs : List X) (x : X) → list_any p xs ≡ false → Contains xs x → p x ≡ false
none_passes p [] x none h = none_in x h
none_passes p (y ∷ ys) x none h =
    let both = neither (p y) (list_any p ys) none in
    ⊎_elim (λ e. sym (ap p e) ∙ both.0) (λ k. none_passes p ys x both.1 k) (in_cases y ys x h)
  where
    neither : (a b : Bool) → (a || b) ≡ false → (a ≡ false) × (b ≡ false)
    neither true b e = let no : true ≡ false = e in cc
    neither false b e = (refl, e)

none_kept : {X : Type 0} (p : X → Bool) (xs : List X) → ((x : X) → Contains xs x → p x ≡ false) → filter p xs ≡ []
none_kept p [] f = refl
none_kept p (x ∷ xs) f =
    ap (λ b. cond b (x ∷ filter p xs) (filter p xs)) (f x (first_in x xs x refl))
    ∙ none_kept p xs (λ y h. f y (later_in x xs y h))

verdicts_are : (units : List WorkUnit) (results : List UnitResult) → length results ≡ length units
    → map (λ (j : Judged). j.1) (judged_by units results) ≡ verdicts_in results
verdicts_are units results counted =
    zip_seconds units (verdicts_in results) (length_verdicts results ∙ counted)

units_are : (units : List WorkUnit) (results : List UnitResult) → length results ≡ length units
    → map (λ (j : Judged). j.0) (judged_by units results) ≡ units
units_are units results counted =
    zip_firsts units (verdicts_in results) (length_verdicts results ∙ counted)

allows_as : (policy : CommitPolicy) (units : List WorkUnit) (results : List UnitResult) (v : Verdict)
    → length results ≡ length units
    → may_commit policy (list_all is_good (verdicts_in results)) v
    ≡ allows policy (map (λ (j : Judged). j.1) (judged_by units results)) v
allows_as policy units results v counted =
    may_allows policy (verdicts_in results) v ∙ ap (λ vs. allows policy vs v) (sym (verdicts_are units results counted))

pub some_allowed : (policy : CommitPolicy) (units : List WorkUnit) (results : List UnitResult)
    → length results ≡ length units
    → list_any (may_commit policy (list_all is_good (verdicts_in results))) (verdicts_in results) ≡ true
    → allowed_units policy (judged_by units results) ≢ []
some_allowed policy units results counted any none =
    let v = some_passes (may_commit policy (list_all is_good (verdicts_in results))) (verdicts_in results) any in
    let j = in_map (λ (k : Judged). k.1) (judged_by units results) v.0
    (subst (λ (vs : List Verdict). Contains vs v.0) (sym (verdicts_are units results counted)) v.1) in
    let may : allows policy (map (λ (k : Judged). k.1) (judged_by units results)) j.0.1 ≡ true =
    sym (allows_as policy units results j.0.1 counted)
    ∙ ap (may_commit policy (list_all is_good (verdicts_in results))) j.2 ∙ v.2 in
    none_in j.0 (subst (λ (js : List Judged). Contains js j.0) none
    (filter_in (λ (k : Judged). allows policy (map (λ (i : Judged). i.1) (judged_by units results)) k.1)
    (judged_by units results) j.0 j.1 may))

pub none_allowed : (policy : CommitPolicy) (units : List WorkUnit) (results : List UnitResult)
    → length results ≡ length units
    → list_any (may_commit policy (list_all is_good (verdicts_in results))) (verdicts_in results) ≡ false
    → allowed_units policy (judged_by units results) ≡ []
none_allowed policy units results counted none =
    none_kept (λ (k : Judged). allows policy (map (λ (i : Judged). i.1) (judged_by units results)) k.1)
    (judged_by units results) (λ j h.
    sym (allows_as policy units results j.1 counted)
    ∙ none_passes (may_commit policy (list_all is_good (verdicts_in results))) (verdicts_in results) j.1 none
    (subst (λ (vs : List Verdict). Contains vs j.1) (verdicts_are units results counted)
    (map_in (λ (k : Judged). k.1) (judged_by units results) j h)))

-- ---- the next state

pub empties : (j : Job) (branches : ℕ) (o : Option State) → length j.plan.branches ≡ branches
    → state_or_empty j o ≡ state_or branches o
empties j branches None e = ap empty_state e
empties j branches (Some s) e = refl

pub next_is : (j : Job) (rules : CommitRules) (o : Option State) (units : List WorkUnit) (results : List UnitResult)
    → HasRules j rules → length results ≡ length units
    → next_of_group j o (judged_by units results)
    ≡ next_state (state_or rules.branches o) rules.pipeline.now units (verdicts_in results) rules.policy
next_is j rules o units results has counted = λ i.
    next_state (empties j rules.branches o has.branches i) (has.pipeline i) (units_are units results counted i)
    (verdicts_are units results counted i) (has.policy i)

run_below : (s : State) (run : ℕ) → s.run < 2 ^ 64 → run ≡ saturate_u64 (s.run + 1) → run ≢ last_run → s.run < last_run
run_below s run small is apart = omega arith

pub state_follows : (s : State) (pipeline : List ℕ) (units : List WorkUnit) (results : List UnitResult)
    (policy : CommitPolicy) (t : State) → Proper s → length results ≡ length units → UnitsFit s.parts units
    → list_any (may_commit policy (list_all is_good (verdicts_in results))) (verdicts_in results) ≡ true
    → t ≡ next_state s pipeline units (verdicts_in results) policy → t.run ≢ last_run → StateFollows s t
state_follows s pipeline units results policy t proper counted fit any is apart =
    let run : t.run ≡ saturate_u64 (s.run + 1) =
    ap (λ (u : State). u.run) (is ∙ state_goes_on s pipeline units results policy counted any) in
    subst (StateFollows s) (sym is)
    (follows_next s pipeline units (verdicts_in results) policy (length_verdicts results ∙ counted) proper.tiled fit
    (run_below s t.run proper.run run apart) (some_allowed policy units results counted any))

-- what is known of the next state over what was loaded
pub record NextOver (branches : ℕ) (pipeline : List ℕ) (policy : CommitPolicy) (o : Option State)
    (units : List WorkUnit) (results : List UnitResult) (t : State) : Type 0 where
  pub before : IfSome o Proper
  pub counted : length results ≡ length units
  pub fits : UnitsFit (state_or branches o).parts units
  pub any : list_any (may_commit policy (list_all is_good (verdicts_in results))) (verdicts_in results) ≡ true
  pub are : t ≡ next_state (state_or branches o) pipeline units (verdicts_in results) policy
  pub proper : Proper t

pub follows_if : (branches : ℕ) (pipeline : List ℕ) (policy : CommitPolicy) (o : Option State)
    (units : List WorkUnit) (results : List UnitResult) (t s : State)
    → NextOver branches pipeline policy o units results t → o ≡ Some s → t.run ≢ last_run → StateFollows s t
follows_if branches pipeline policy None units results t s n e apart = let no : None ≡ Some s = e in cc
follows_if branches pipeline policy (Some r) units results t s n e apart =
    let same : r ≡ s = let both : Some r ≡ Some s = e in cc in
    subst (λ (q : State). StateFollows q t) same
    (state_follows r pipeline units results policy t n.before n.counted n.fits n.any n.are apart)

not_last : (version changes : ℕ) (t : State) → wants_whole version changes t ≡ false → t.run ≢ last_run
not_last version changes t whole e =
    let stop : nat_eq t.run last_run ≡ false = last_of (nat_eq version 1) (nat_le 64 changes) (nat_eq t.run last_run)
    whole in
    let here : nat_eq t.run last_run ≡ true = eq-eqb t.run last_run e in cc
  where
    last_of : (a b c : Bool) → (a || b || c) ≡ false → c ≡ false
    last_of true b c e = let no : true ≡ false = e in cc
    last_of false true c e = let no : true ≡ false = e in cc
    last_of false false c e = e

pub follows_where : (branches : ℕ) (pipeline : List ℕ) (policy : CommitPolicy) (o : Option State)
    (units : List WorkUnit) (results : List UnitResult) (t : State) (version changes : ℕ)
    → NextOver branches pipeline policy o units results t
    → IfSome o (λ s. wants_whole version changes t ≡ false → StateFollows s t)
follows_where branches pipeline policy None units results t version changes n = tt
follows_where branches pipeline policy (Some s) units results t version changes n =
    λ whole. follows_if branches pipeline policy (Some s) units results t s n refl (not_last version changes t whole)

-- ---- how many changes are counted

small_fits : (job : List ℕ) (s t : State) (changes : ℕ) → changes ≤ s.run → StateFollows s t
    → (small_change job s changes t).changes ≤ t.run
small_fits job s t changes counted follows = omega (arith, follows.run)

pub changes_fit : (job : List ℕ) (o : Option State) (changes version : ℕ) (t : State) → CountsChanges o changes
    → IfSome o (λ s. wants_whole version changes t ≡ false → StateFollows s t)
    → (change_of job o changes version t).changes ≤ t.run
unfolding change_of
changes_fit job None changes version t counted follows = omega arith
changes_fit job (Some s) changes version t counted follows = cases (wants_whole version changes t) refl
  where
    cases : (b : Bool) → wants_whole version changes t ≡ b
        → (cond b (whole_change job (earlier_changes job s.run changes) t) (small_change job s changes t)).changes ≤
        t.run
    cases true is = omega arith
    cases false is = small_fits job s t changes counted (follows is)

-- ---- what is kept

changes_are : (job : List ℕ) (k : Option Kept) (t : State)
    → (change_over job k t).changes ≡ changes_in (Some (kept_next k t))
unfolding change_of
changes_are job None t = refl
changes_are job (Some k) t = cases (wants_whole (version_number k.version) (length k.later) t)
  where
    cases : (b : Bool)
        → (cond b (whole_change job (earlier_changes job (state_of k).run (length k.later)) t)
        (small_change job (state_of k) (length k.later) t)).changes
        ≡ length (cond b (base_alone t) (record k { later = k.later ++ t ∷ [] })).later
    cases true = refl
    cases false = sym (length-append k.later (t ∷ []))

version_is : (k : Option Kept) (t : State) → 2 ≡ version_in (Some (kept_next k t))
version_is None t = refl
version_is (Some k) t = cases (wants_whole (version_number k.version) (length k.later) t) refl
  where
    second : (v : Version) → (nat_eq (version_number v) 1 || nat_le 64 (length k.later) || nat_eq t.run last_run)
        ≡ false
        → 2 ≡ version_number v
    second version_1 e = let no : true ≡ false = e in cc
    second version_2 e = refl

    cases : (b : Bool) → wants_whole (version_number k.version) (length k.later) t ≡ b
        → 2 ≡ version_number (cond b (base_alone t) (record k { later = k.later ++ t ∷ [] })).version
    cases true is = refl
    cases false is = second k.version is

pub now_loaded : (job : List ℕ) (k : Option Kept) (t : State) (changes : ℕ) → changes ≡ (change_over job k t).changes
    → IsLoaded (Some (kept_next k t)) (record { state = Some t; deltas = changes; version = 2 })
now_loaded job k t changes are = record {
  state = ap (λ s. Some s) (sym (next_state_kept k t));
  deltas = are ∙ changes_are job k t;
  version = version_is k t;
}
