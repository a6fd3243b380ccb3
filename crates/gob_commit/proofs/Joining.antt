-- What the units of a group have staged, all together.
use Rattle.std.proofs.Common.{◌≡◌, ◌≢◌, ⊎_elim, ℕ, true, List, [], ◌∷◌, map, length, refl, sym, ap}
use Rattle.std.proofs.Common.{subst, ◌∙◌, arith}
use Rattle.std.specs.List.{Contains, zip}
use Rattle.gob_device.specs.Disk.{Files}
use Rattle.gob_device.specs.Supply.{Held}
use Rattle.gob_plan.specs.declared.plan.CommitPolicy.{CommitPolicy}
use Rattle.gob_plan.specs.declared.plan.CommitPolicy.TheVariants.{Full, Successful}
use Rattle.gob_plan.specs.declared.plan.Plan.{Plan}
use Rattle.gob_plan.specs.declared.units.Unit.{Unit as WorkUnit}
use Rattle.gob_plan.specs.declared.units.UnitResult.{UnitResult}
use Rattle.gob_plan.specs.declared.units.UnitResult.TheVariants as result
use Rattle.gob_meaning.specs.Job.{Job}
use Rattle.gob_meaning.specs.Results.{Verdict}
use Rattle.gob_ledger.specs.Expected.{IsPublished}
use Rattle.gob_ledger.specs.Next.{Judged, allowed_units, allows, is_good}
use Rattle.gob_ledger.proofs.Members.{filter_in, first_in, flat_map_in, in_cases, in_filter, in_flat_map, in_map}
use Rattle.gob_ledger.proofs.Members.{map_in, none_in}
use Rattle.gob_history.specs.Laws.{StagedFor}
use Rattle.gob_history.specs.Runs.{done_in}
use Rattle.gob_state.specs.Committed.{judged_by, verdict_in}
use Rattle.gob_commit.specs.Staged.{PulledUnit, Pair, all_pairs, judged_of, pairs_in}
use Rattle.gob_commit.proofs.Differing.{list_all_at}

-- ---- units with their results

pub judged_all : (units : List WorkUnit) (results : List UnitResult)
    → map judged_of (zip units results) ≡ judged_by units results
judged_all [] results = refl
judged_all (u ∷ us) [] = refl
judged_all (u ∷ us) (r ∷ rs) = ap (λ (js : List Judged). (u, verdict_in r) ∷ js) (judged_all us rs)

pub made_of : (units : List WorkUnit) (results : List UnitResult) (j : Judged) → Contains (judged_by units results) j
    → (w : PulledUnit) × Contains (zip units results) w × (judged_of w ≡ j)
made_of units results j h =
    in_map judged_of (zip units results) j
    (subst (λ (js : List Judged). Contains js j) (sym (judged_all units results)) h)

pub judged_in : (units : List WorkUnit) (results : List UnitResult) (w : PulledUnit) → Contains (zip units results) w
    → Contains (judged_by units results) (judged_of w)
judged_in units results w h =
    subst (λ (js : List Judged). Contains js (judged_of w)) (judged_all units results)
    (map_in judged_of (zip units results) w h)

pub zip_firsts : {X Y : Type 0} (xs : List X) (ys : List Y) → length ys ≡ length xs
    → map (λ (w : X × Y). w.0) (zip xs ys) ≡ xs
zip_firsts [] ys e = refl
zip_firsts (x ∷ xs) [] e = absurd (omega (arith, e))
zip_firsts {X} {Y} (x ∷ xs) (y ∷ ys) e = ap (λ (zs : List X). x ∷ zs) (zip_firsts xs ys (omega (arith, e)))

pub zip_seconds : {X Y : Type 0} (xs : List X) (ys : List Y) → length ys ≡ length xs
    → map (λ (w : X × Y). w.1) (zip xs ys) ≡ ys
zip_seconds [] [] e = refl
zip_seconds [] (y ∷ ys) e = absurd (omega (arith, e))
zip_seconds (x ∷ xs) [] e = absurd (omega (arith, e))
zip_seconds {X} {Y} (x ∷ xs) (y ∷ ys) e = ap (λ (zs : List Y). y ∷ zs) (zip_seconds xs ys (omega (arith, e)))

-- each result is that of a unit
unit_of : (units : List WorkUnit) (results : List UnitResult) (r : UnitResult) → length results ≡ length units
    → Contains results r → (u : WorkUnit) × Contains (zip units results) (u, r)
unit_of units results r counted h =
    let found = in_map (λ (w : PulledUnit). w.1) (zip units results) r
    (subst (λ (rs : List UnitResult). Contains rs r) (sym (zip_seconds units results counted)) h) in
    (found.0.0, subst (λ (q : UnitResult). Contains (zip units results) (found.0.0, q)) found.2 found.1)

pub result_of : (units : List WorkUnit) (results : List UnitResult) (w : PulledUnit) → length results ≡ length units
    → Contains (zip units results) w → Contains results w.1
result_of units results w counted h =
    subst (λ (rs : List UnitResult). Contains rs w.1) (zip_seconds units results counted)
    (map_in (λ (v : PulledUnit). v.1) (zip units results) w h)

-- ---- what the policy allows

pub allowed_good : (policy : CommitPolicy) (all : List Judged) (j : Judged) → Contains (allowed_units policy all) j
    → is_good j.1 ≡ true
allowed_good policy all j h =
    let found = in_filter (λ (k : Judged). allows policy (map (λ (i : Judged). i.1) all) k.1) all j h in
    cases policy found.0 found.1
  where
    cases : (p : CommitPolicy) → Contains all j → allows p (map (λ (i : Judged). i.1) all) j.1 ≡ true → is_good j.1
        ≡ true
    cases Full here may = list_all_at is_good (map (λ (i : Judged). i.1) all) j.1 may (map_in (λ (i : Judged). i.1)
        all j here)
    cases Successful here may = may

-- where one unit is allowed, each good one is
pub good_allowed : (policy : CommitPolicy) (all : List Judged) (j : Judged) → allowed_units policy all ≢ []
    → Contains all j → is_good j.1 ≡ true → Contains (allowed_units policy all) j
good_allowed policy all j some here good =
    filter_in (λ (k : Judged). allows policy vs k.1) all j here (first (allowed_units policy all) refl)
  where
    vs : List Verdict
    vs = map (λ (i : Judged). i.1) all

    by_policy : (p : CommitPolicy) (v : Verdict) → allows p vs v ≡ true → allows p vs j.1 ≡ true
    by_policy Full v may = may
    by_policy Successful v may = good

    first : (done : List Judged) → allowed_units policy all ≡ done → allows policy vs j.1 ≡ true
    first [] is = absurd (some is)
    first (k ∷ ks) is = by_policy policy k.1 (in_filter (λ (i : Judged). allows policy vs i.1) all k
        (subst (λ (js : List Judged). Contains js k) (sym is) (first_in k ks k refl))).1

-- ---- the group's staged files

pairs_good : (r : UnitResult) (p : Pair) → Contains (pairs_in r) p → is_good (verdict_in r) ≡ true
pairs_good (result.Good counts warnings staged) p h = refl
pairs_good (result.Failed cause) p h = none_in p h

widened : (job : List ℕ) (plan : Plan) (held : Held) (j : Judged) (done : List Judged) (name content : List ℕ)
    → Contains done j → IsPublished job plan held (j ∷ []) name content → IsPublished job plan held done name content
widened job plan held j done name content h p = record {
  unit = p.unit;
  of_units = ⊎_elim (λ e. subst (Contains done) e h) (λ k. none_in p.unit k) (in_cases j [] p.unit p.of_units);
  path = p.path;
  made = p.made;
  called = p.called;
}

narrowed : (job : List ℕ) (plan : Plan) (held : Held) (j : Judged) (done : List Judged) (name content : List ℕ)
    → (p : IsPublished job plan held done name content) → j ≡ p.unit → IsPublished job plan held (j ∷ []) name content
narrowed job plan held j done name content p e = record {
  unit = p.unit;
  of_units = first_in j [] p.unit e;
  path = p.path;
  made = p.made;
  called = p.called;
}

pub joined : (j : Job) (held : Held) (m : Files) (units : List WorkUnit) (results : List UnitResult)
    → length results ≡ length units → done_in j (judged_by units results) ≢ []
    → ((w : PulledUnit) → Contains (zip units results) w → is_good (verdict_in w.1) ≡ true
    → StagedFor j held (judged_of w ∷ []) m (pairs_in w.1))
    → StagedFor j held (done_in j (judged_by units results)) m (all_pairs results)
joined j held m units results counted some staged = record {
  made = λ p h.
      let r = in_flat_map pairs_in results p h in
      let u = unit_of units results r.0 counted r.1 in
      let good = pairs_good r.0 p r.2 in
      let own = (staged (u.0, r.0) u.1 good).made p r.2 in (
        own.0,
        own.1,
        widened j.name j.plan held (u.0, verdict_in r.0) done p.1 own.0
            (good_allowed j.policy all (u.0, verdict_in r.0) some (judged_in units results (u.0, r.0) u.1) good) own.2,
      );
  all = λ name content p.
      let here = (in_filter (λ (k : Judged). allows j.policy (map (λ (i : Judged). i.1) all) k.1) all p.unit
      p.of_units).0 in
      let w = made_of units results p.unit here in
      let good : is_good (verdict_in w.0.1) ≡ true =
      ap (λ (k : Judged). is_good k.1) w.2 ∙ allowed_good j.policy all p.unit p.of_units in
      let own = (staged w.0 w.1 good).all name content
      (narrowed j.name j.plan held (judged_of w.0) done name content p w.2) in
      (own.0, flat_map_in pairs_in results w.0.1 own.0 (result_of units results w.0 counted w.1) own.1, own.2, own.3);
}
  where
    all : List Judged
    all = judged_by units results

    done : List Judged
    done = done_in j (judged_by units results)
