-- The bytes that good units were given, as the commits of their groups need them.
use Rattle.std.proofs.Common.{◌≡◌, ⊎_elim, ℕ, suc, true, List, [], ◌∷◌, zip, Option, Some, None, IfSome, slice_get}
use Rattle.std.proofs.Common.{refl, sym, ap, subst, ◌∙◌}
use Rattle.std.specs.List.{Contains}
use Rattle.gob_device.specs.Disk.{Disk}
use Rattle.gob_device.specs.Supply.{Held}
use Rattle.gob_plan.specs.declared.units.Unit.{Unit as WorkUnit}
use Rattle.gob_plan.specs.declared.units.UnitResult.{UnitResult}
use Rattle.gob_meaning.specs.Job.{Job}
use Rattle.gob_meaning.specs.Results.{Verdict}
use Rattle.gob_ledger.specs.Next.{Judged, is_good}
use Rattle.gob_ledger.proofs.Members.{in_cases, none_in}
use Rattle.gob_state.specs.Committed.{judged_by, verdict_in}
use Rattle.gob_turns.specs.Taken.{AllStaged}
use Rattle.gob_run.specs.Answers.{AreGivenBy}
use Rattle.gob_run.proofs.Given.{AllGivenIn}

-- a unit and its verdict stand in one place
judged_at : (units : List WorkUnit) (results : List UnitResult) (j : Judged) → Contains (judged_by units results) j
    → (i : ℕ) × (r : UnitResult) × (slice_get units i ≡ Some j.0) × (slice_get results i ≡ Some r)
    × (verdict_in r ≡ j.1)
judged_at [] results j there = none_in j there
judged_at (u ∷ us) [] j there = none_in j there
judged_at (u ∷ us) (r ∷ rs) j there = ⊎_elim
    (λ e. (0, r, ap (λ (k : Judged). Some k.0) e, refl, ap (λ (k : Judged). k.1) e))
    (λ later. let at = judged_at us rs j later in (suc at.0, at.1, at.2, at.3, at.4))
    (in_cases (u, verdict_in r) (judged_by us rs) j there)

pub are_given_by : (job : Job) (held : Held) (units : List WorkUnit) (results : List UnitResult) (disk : Option Disk)
    → AllGivenIn job held units results disk → AreGivenBy job held (judged_by units results)
are_given_by job held units results disk all = λ j there good.
    let at = judged_at units results j there in
    let given = all at.0 j.0 at.1 at.2 at.3 (ap is_good at.4 ∙ good) in
    record { whole = given.whole; verdict = sym at.4 ∙ given.verdict }

pub all_staged_given : (job : Job) (held : Held) (units : List WorkUnit) (results : List UnitResult)
    (disk : Option Disk) → AllGivenIn job held units results disk
    → IfSome disk (λ d. AllStaged job held units results d.files)
all_staged_given job held units results None all = tt
all_staged_given job held units results (Some d) all =
    λ i u r of_unit of_result good. (all i u r of_unit of_result good).staged

-- where there is no result no unit was given anything
pub none_given : (job : Job) (held : Held) (units : List WorkUnit) → AreGivenBy job held (judged_by units [])
none_given job held units j there good = none_in j (subst (λ js. Contains js j) (none_judged units) there)
  where
    none_judged : (us : List WorkUnit) → judged_by us [] ≡ []
    none_judged [] = refl
    none_judged (u ∷ us) = refl
