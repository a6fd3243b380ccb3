-- Units that are committed are good, and counted what their plan makes of their bytes.
use Rattle.std.proofs.Common.{◌≡◌, ⊎_elim, ℕ, ◌+◌, ◌-◌, Bool, true, false, cond, List, [], ◌∷◌, map, length, refl, sym}
use Rattle.std.proofs.Common.{ap, subst, ◌∙◌, Some, None, arith}
use Rattle.std.specs.declared.option.Option.{Option}
use Rattle.std.specs.List.{Contains, enumerate_from, list_all, zip}
use Rattle.std.proofs.lemmas.Bool.{and_parts}
use Rattle.gob_bytes.specs.Lines.{ends_in_lf}
use Rattle.gob_device.specs.Supply.{Held, bytes_from}
use Rattle.gob_plan.specs.declared.plan.CommitPolicy.{CommitPolicy}
use Rattle.gob_plan.specs.declared.plan.CommitPolicy.TheVariants.{Full, Successful}
use Rattle.gob_plan.specs.declared.plan.Plan.{Plan}
use Rattle.gob_plan.specs.declared.units.Cause.{Cause}
use Rattle.gob_plan.specs.declared.units.Cause.TheVariants.{Fault, Gone, Torn}
use Rattle.gob_plan.specs.declared.units.Counts.{Counts}
use Rattle.gob_plan.specs.declared.units.Unit.{Unit as WorkUnit}
use Rattle.gob_meaning.specs.Fold.{unit_fold, counts_of, stop_of}
use Rattle.gob_meaning.specs.Job.{Job}
use Rattle.gob_meaning.specs.Results.{Verdict, failed, verdict_by_policies, first_failing, unless_stopped, verdict_of}
use Rattle.gob_ledger.specs.Next.{Judged, is_good, allows, allowed_units, counts_in}
use Rattle.gob_ledger.specs.Turns.{gave_up, turns_of, verdicts_of}
use Rattle.gob_ledger.proofs.Members.{none_in, in_cases, in_filter, map_in}

each_length : (F : ℕ × WorkUnit → Verdict) (n : ℕ) (us : List WorkUnit)
    → length (map F (enumerate_from n us)) ≡ length us
each_length F n [] = refl
each_length F n (u ∷ us) = let e = each_length F (n + 1) us in omega (arith, e)

pub verdicts_length : (job : Job) (held : Held) (units : List WorkUnit) (failing : List ℕ)
    → length (verdicts_of job held units failing) ≡ length units
unfolding verdicts_of
verdicts_length job held units failing = each_length _ 0 units

each_judged : (F : ℕ × WorkUnit → Verdict) (n : ℕ) (us : List WorkUnit) (j : Judged)
    → Contains (zip us (map F (enumerate_from n us))) j → (k : ℕ) × (j.1 ≡ F (k, j.0))
each_judged F n [] j h = none_in j h
each_judged F n (u ∷ us) j h = ⊎_elim
    (λ e. (n, sym (ap (λ (x : Judged). x.1) e) ∙ ap (λ (x : Judged). F (n, x.0)) e))
    (λ k. each_judged F (n + 1) us j k)
    (in_cases (u, F (n, u)) (zip us (map F (enumerate_from (n + 1) us))) j h)

abbrev unit_bytes : Held → WorkUnit → List ℕ
unit_bytes held u = bytes_from held u.part u.lo (u.hi - u.lo)

-- a unit's verdict is that of its bytes, or a failure ended it
pub judged_is : (job : Job) (held : Held) (units : List WorkUnit) (failing : List ℕ) (j : Judged)
    → Contains (zip units (verdicts_of job held units failing)) j
    → (b : Bool) × (j.1 ≡ cond b (failed Fault) (verdict_of job.plan j.0 (unit_bytes held j.0)))
unfolding verdicts_of
judged_is job held units failing j h = let r = each_judged _ 0 units j h in
    (gave_up (turns_of job held units failing) r.0, r.1)

all_good : (vs : List Verdict) (v : Verdict) → list_all is_good vs ≡ true → Contains vs v → is_good v ≡ true
all_good [] v all h = none_in v h
all_good (w ∷ vs) v all h =
    let p = and_parts (is_good w) (list_all is_good vs) all in
    ⊎_elim (λ e. subst (λ x. is_good x ≡ true) e p.0) (λ k. all_good vs v p.1 k) (in_cases w vs v h)

-- what a policy allows is good
pub allowed_is_good : (policy : CommitPolicy) (all : List Judged) (j : Judged) → Contains (allowed_units policy all) j
    → Contains all j × (is_good j.1 ≡ true)
allowed_is_good Full all j h =
    let r = in_filter (λ k. allows Full (map (λ (x : Judged). x.1) all) k.1) all j h in
    (r.0, all_good (map (λ (x : Judged). x.1) all) j.1 r.1 (map_in (λ (x : Judged). x.1) all j r.0))
allowed_is_good Successful all j h = in_filter (λ k. allows Successful (map (λ (x : Judged). x.1) all) k.1) all j h

judged_good : (plan : Plan) (n : Counts) (o : Option ℕ) → is_good (verdict_by_policies plan n o) ≡ true
    → counts_in (verdict_by_policies plan n o) ≡ Some n
judged_good plan n (Some index) e = absurd (let no : false ≡ true = e in cc)
judged_good plan n None e = refl

stopped_good : (plan : Plan) (lo : ℕ) (bytes : List ℕ) (o : Option Cause)
    → is_good (unless_stopped plan lo bytes o) ≡ true → counts_in (unless_stopped plan lo bytes o) ≡ Some
    (counts_of plan (unit_fold plan lo bytes))
stopped_good plan lo bytes (Some cause) e = absurd (let no : false ≡ true = e in cc)
stopped_good plan lo bytes None e = cases (ends_in_lf bytes) e
  where
    cases : (b : Bool) → is_good (cond b (verdict_by_policies plan (counts_of plan (unit_fold plan lo bytes))
        (first_failing (enumerate_from 0 plan.task_policies) (counts_of plan (unit_fold plan lo bytes)))) (failed Torn))
        ≡ true
        → counts_in (cond b (verdict_by_policies plan (counts_of plan (unit_fold plan lo bytes))
        (first_failing (enumerate_from 0 plan.task_policies) (counts_of plan (unit_fold plan lo bytes))))
        (failed Torn)) ≡ Some (counts_of plan (unit_fold plan lo bytes))
    cases true e = judged_good plan (counts_of plan (unit_fold plan lo bytes)) _ e
    cases false e = absurd (let no : false ≡ true = e in cc)

-- a good unit is listed, and counted what its bytes make
pub good_counts : (plan : Plan) (u : WorkUnit) (bytes : List ℕ) → is_good (verdict_of plan u bytes) ≡ true
    → (u.listed ≡ true) × (counts_in (verdict_of plan u bytes) ≡ Some (counts_of plan (unit_fold plan u.lo bytes)))
unfolding verdict_of
good_counts plan u bytes e = cases u.listed refl e
  where
    cases : (b : Bool) → u.listed ≡ b → is_good (cond b (unless_stopped plan u.lo bytes
        (stop_of plan (unit_fold plan u.lo bytes))) (failed Gone)) ≡ true
        → (u.listed ≡ true) × (counts_in (cond u.listed (unless_stopped plan u.lo bytes
        (stop_of plan (unit_fold plan u.lo bytes))) (failed Gone)) ≡ Some
        (counts_of plan (unit_fold plan u.lo bytes)))
    cases true is e = (
      is,
      ap (λ v. counts_in (cond v (unless_stopped plan u.lo bytes
          (stop_of plan (unit_fold plan u.lo bytes))) (failed Gone))) is
          ∙ stopped_good plan u.lo bytes (stop_of plan (unit_fold plan u.lo bytes)) e,
    )
    cases false is e = absurd (let no : false ≡ true = e in cc)

-- a good unit is listed, and counted what the job's plan makes of its bytes
pub good_counts_are : (job : Job) (held : Held) (units : List WorkUnit) (failing : List ℕ) (j : Judged)
    → Contains (zip units (verdicts_of job held units failing)) j → is_good j.1 ≡ true
    → (j.0.listed ≡ true) × (counts_in j.1 ≡ Some (counts_of job.plan
    (unit_fold job.plan j.0.lo (unit_bytes held j.0))))
good_counts_are job held units failing j h is =
    let v = judged_is job held units failing j h in cases v.0 v.1 is
  where
    cases : (b : Bool) → j.1 ≡ cond b (failed Fault) (verdict_of job.plan j.0 (unit_bytes held j.0))
        → is_good j.1 ≡ true → (j.0.listed ≡ true) × (counts_in j.1 ≡ Some
        (counts_of job.plan (unit_fold job.plan j.0.lo (unit_bytes held j.0))))
    cases true is e = absurd (let no : false ≡ true = sym (ap is_good is) ∙ e in cc)
    cases false is e = let g = good_counts job.plan j.0 (unit_bytes held j.0) (sym (ap is_good is) ∙ e) in
        (g.0, ap counts_in is ∙ g.1)

-- a committed unit is listed, and counted what the job's plan makes of its bytes
pub done_counts_are : (job : Job) (held : Held) (units : List WorkUnit) (failing : List ℕ) (j : Judged)
    → Contains (allowed_units job.policy (zip units (verdicts_of job held units failing))) j
    → Contains (zip units (verdicts_of job held units failing)) j × (j.0.listed ≡ true)
    × (counts_in j.1 ≡ Some (counts_of job.plan (unit_fold job.plan j.0.lo (unit_bytes held j.0))))
done_counts_are job held units failing j h =
    let a = allowed_is_good job.policy (zip units (verdicts_of job held units failing)) j h in
    let v = judged_is job held units failing j a.0 in
    let r = cases v.0 v.1 a.1 in (a.0, r.0, r.1)
  where
    cases : (b : Bool) → j.1 ≡ cond b (failed Fault) (verdict_of job.plan j.0 (unit_bytes held j.0))
        → is_good j.1 ≡ true → (j.0.listed ≡ true) × (counts_in j.1 ≡ Some
        (counts_of job.plan (unit_fold job.plan j.0.lo (unit_bytes held j.0))))
    cases true is e = absurd (let no : false ≡ true = sym (ap is_good is) ∙ e in cc)
    cases false is e = let g = good_counts job.plan j.0 (unit_bytes held j.0) (sym (ap is_good is) ∙ e) in
        (g.0, ap counts_in is ∙ g.1)
