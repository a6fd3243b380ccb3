-- One turn of a unit, told over a source.
use Rattle.std.proofs.Common.{◌≡◌, ℕ, ◌+◌, Bool, true, false, cond, nat_lt, nat_le, List, [], ◌∷◌}
use Rattle.std.proofs.Common.{refl, sym, ap, ◌∙◌, arith, Some}
use Rattle.std.specs.declared.option.Option.{Option}
use Rattle.std.proofs.lemmas.Bool.Decides.{nat_tests}
use Rattle.gob_device.specs.Supply.{Held, Pull, Supply, bytes_from, with_pull, with_pulls}
use Rattle.gob_device.proofs.Supply.{with_none}
use Rattle.gob_plan.specs.declared.units.Cause.{Cause}
use Rattle.gob_plan.specs.declared.units.Cause.TheVariants.{Fault}
use Rattle.gob_plan.specs.declared.units.Unit.{Unit as WorkUnit}
use Rattle.gob_plan.specs.declared.units.UnitResult.{UnitResult}
use Rattle.gob_plan.specs.declared.units.UnitResult.TheVariants as unit_result
use Rattle.gob_meaning.specs.Job.{Job}
use Rattle.gob_meaning.specs.Results.{Verdict, failed}
use Rattle.gob_ledger.specs.Turns.{Waiting, first_pull, own_pulls, pulls_in}
use Rattle.gob_ledger.specs.Turns.{unit_verdict}
use Rattle.gob_state.specs.Committed.{verdict_in}
use Rattle.gob_task.specs.Turn.{ended, ends_with, going, retry}
use Rattle.gob_turns.specs.Standing.{is_open, waiting_behind, waiting_for}
use Rattle.gob_turns.specs.Underway.{IsJudgedNow, IsTurnOf}
use Rattle.gob_turns.specs.declared.progress.Progress.{Progress}
use Rattle.gob_turns.specs.declared.progress.Progress.TheVariants.{Waits, Runs, Ended}
use Rattle.gob_turns.proofs.Left.{PullsNext, own_left, pull_at}

-- ---- the end of a turn tells which way it went

pub going_on : (b : Bool) (v : Verdict) → cond b (ended v) going ≡ going → b ≡ false
going_on true v e = cc
going_on false v e = refl

same_ended : (v w : Verdict) → ended v ≡ ended w → v ≡ w
same_ended v w e = cc

pub ended_by : (b : Bool) (v w : Verdict) → cond b (ended v) going ≡ ended w → (b ≡ true) × (v ≡ w)
ended_by true v w e = (refl, same_ended v w e)
ended_by false v w e = absurd (let no : going ≡ ended w = e in cc)

pub never_retried : (b : Bool) (v : Verdict) → cond b (ended v) going ≡ retry → ⊥
never_retried true v e = cc
never_retried false v e = cc

pub fails_anew : (b : Bool) → cond b retry (ended (failed Fault)) ≡ retry → b ≡ true
fails_anew true e = refl
fails_anew false e = cc

pub fails_for_good : (b : Bool) (v : Verdict) → cond b retry (ended (failed Fault)) ≡ ended v
    → (b ≡ false) × (v ≡ failed Fault)
fails_for_good true v e = absurd (let no : retry ≡ ended v = e in cc)
fails_for_good false v e = (refl, sym (same_ended (failed Fault) v e))

pub never_goes : (b : Bool) → cond b retry (ended (failed Fault)) ≡ going → ⊥
never_goes true e = cc
never_goes false e = cc

-- ---- turns that failed

pub open_judged : (job : Job) (held : Held) (u : WorkUnit) (gave : Bool) (q : Progress) → is_open q ≡ true
    → gave ≡ false → IsJudgedNow job held u gave q
open_judged job held u gave Waits goes none = none
open_judged job held u gave (Runs t) goes none = none
open_judged job held u gave (Ended r) goes none = absurd (let no : false ≡ true = goes in cc)

above : (failures retries : ℕ) → nat_lt failures retries ≡ true → nat_le retries failures ≡ false
above failures retries is = grind (arith, nat_tests)

not_above : (failures retries : ℕ) → nat_lt failures retries ≡ false → nat_le retries failures ≡ true
not_above failures retries is = grind (arith, nat_tests)

-- the unit begins anew
pub retry_told : (job : Job) (s : Supply) (i : ℕ) (u : WorkUnit) (seen failures : ℕ) (q : Progress)
    (now : Option Supply)
    → nat_lt failures job.max_retries ≡ true → now ≡ Some s → is_open q ≡ true
    → waiting_for job s.held i u q ≡ waiting_behind job s.held i u 0 (failures + 1) ∷ []
    → IsTurnOf job s i u (waiting_behind job s.held i u seen failures) true q now
retry_told job s i u seen failures q now below same goes waits =
    let own : List Pull = own_pulls job s.held u in
    record {
      supply = same ∙ ap Some (with_none s);
      left =
          ap (λ b. cond b (record { unit = i; all = own; left = own; failures = failures + 1 } ∷ []) []) below
          ∙ (ap (λ (ps : List Pull). record { unit = i; all = own; left = ps; failures = failures + 1 } ∷ [])
          (own_left job s.held u) ∙ sym waits);
      judged = open_judged job s.held u _ q goes (above failures job.max_retries below);
    }

-- the unit is given up
pub gave_up_told : (job : Job) (s : Supply) (i : ℕ) (u : WorkUnit) (seen failures : ℕ) (c : Cause)
    (now : Option Supply) → nat_lt failures job.max_retries ≡ false → now ≡ Some s → failed c ≡ failed Fault
    → IsTurnOf job s i u (waiting_behind job s.held i u seen failures) true (Ended (unit_result.Failed c)) now
gave_up_told job s i u seen failures c now over same fault =
    let own : List Pull = own_pulls job s.held u in
    record {
      supply = same ∙ ap Some (with_none s);
      left = ap (λ b. cond b (record { unit = i; all = own; left = own; failures = failures + 1 } ∷ []) []) over;
      judged = fault ∙ sym (ap (λ b. cond b (failed Fault) (unit_verdict job s.held u))
          (not_above failures job.max_retries over));
    }

-- ---- turns that were answered

pulled : (w : Waiting) (p : Pull) (s : Supply) (now : Option Supply) → now ≡ Some (with_pull p s)
    → first_pull w.left ≡ Some p
    → now ≡ Some (with_pulls (pulls_in (record { unit = w.unit; pull = first_pull w.left; gave_up = false } ∷ [])) s)
pulled w p s now is first =
    is ∙ sym (ap (λ o. Some (with_pulls (pulls_in (record { unit = w.unit; pull = o; gave_up = false } ∷ [])) s)) first)

-- bytes of the unit are left
pub going_told : (job : Job) (s : Supply) (i : ℕ) (u : WorkUnit) (seen a failures : ℕ) (q : Progress)
    (now : Option Supply)
    → PullsNext job s.held u seen a (waiting_behind job s.held i u seen failures)
    → ends_with job.plan u (bytes_from s.held u.part u.lo (seen + a)) ≡ false
    → now ≡ Some (with_pull (pull_at u.part (u.lo + seen) a) s) → is_open q ≡ true
    → waiting_for job s.held i u q ≡ waiting_behind job s.held i u (seen + a) failures ∷ []
    → IsTurnOf job s i u (waiting_behind job s.held i u seen failures) false q now
going_told job s i u seen a failures q now next ends is goes waits = record {
  supply = pulled (waiting_behind job s.held i u seen failures) (pull_at u.part (u.lo + seen) a) s now is next.first;
  left = next.after
      ∙ (ap (λ b. cond b [] (waiting_behind job s.held i u (seen + a) failures ∷ [])) ends ∙ sym waits);
  judged = open_judged job s.held u false q goes refl;
}

-- the unit has ended with these bytes
pub ended_told : (job : Job) (s : Supply) (i : ℕ) (u : WorkUnit) (seen a failures : ℕ) (r : UnitResult)
    (now : Option Supply)
    → PullsNext job s.held u seen a (waiting_behind job s.held i u seen failures)
    → ends_with job.plan u (bytes_from s.held u.part u.lo (seen + a)) ≡ true
    → now ≡ Some (with_pull (pull_at u.part (u.lo + seen) a) s)
    → verdict_in r ≡ unit_verdict job s.held u
    → IsTurnOf job s i u (waiting_behind job s.held i u seen failures) false (Ended r) now
ended_told job s i u seen a failures r now next ends is verdict = record {
  supply = pulled (waiting_behind job s.held i u seen failures) (pull_at u.part (u.lo + seen) a) s now is next.first;
  left = next.after ∙ ap (λ b. cond b [] (waiting_behind job s.held i u (seen + a) failures ∷ [])) ends;
  judged = verdict;
}
