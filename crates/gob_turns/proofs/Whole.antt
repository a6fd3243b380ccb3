-- All turns of a run, from the first to the last.
use Rattle.std.proofs.Common.{◌≡◌, ℕ, ◌+◌, ◌*◌, List, [], refl, ap, sym, subst, ◌∙◌, arith, Some, None}
use Rattle.std.proofs.Math.Nat.{le_refl}
use Rattle.gob_device.specs.Causes.{RoseBy}
use Rattle.gob_device.specs.Supply.{Supply}
use Rattle.gob_device.proofs.Trail.{along_nothing, along_then}
use Rattle.gob_bytes.specs.Paths.{staging}
use Rattle.gob_plan.specs.declared.plan.TurnRules.{TurnRules}
use Rattle.gob_plan.specs.declared.units.Unit.{Unit as WorkUnit}
use Rattle.gob_plan.specs.declared.units.UnitResult.{UnitResult}
use Rattle.gob_meaning.specs.Job.{Job}
use Rattle.gob_ledger.specs.Counted.{whose_turn}
use Rattle.gob_recovery.specs.Commits.{OnlyBelow}
use Rattle.gob_sched.specs.CoreValue.{CoreValue}
use Rattle.gob_task.specs.Turn.{Devices, TurnRulesValue}
use Rattle.gob_turns.specs.declared.progress.Progress.{Progress}
use Rattle.gob_turns.specs.Asked.{AreHeld, IsWorkedBy, MayHaveTurns}
use Rattle.gob_turns.specs.Course.{HaveBegun}
use Rattle.gob_turns.specs.Standing.{results_in}
use Rattle.gob_turns.specs.Taken.{AllGiven, AreCommittable, AreResults, given_up_in}
use Rattle.gob_turns.specs.Underway.{AreUnderway, IsLeft, KeepsAll}
use Rattle.gob_turns.proofs.Beginning.{begins}
use Rattle.gob_turns.proofs.Committing.{are_committable}
use Rattle.gob_turns.proofs.Ending.{HaveEnded, have_ended, underway_left}
use Rattle.gob_turns.proofs.Publishing.{all_given, are_results}
use Rattle.gob_turns.proofs.Pulled.{pulled_nothing, pulled_then}

pub keeps_then : (job : List ℕ) (old mid new : Devices) → KeepsAll job old mid → KeepsAll job mid new
    → KeepsAll job old new
keeps_then job old mid new first later =
    let up = first.source in
    let more = later.source in
    let rose = first.volume in
    let again = later.volume in
    record {
      below = along_then (OnlyBelow (staging job)) (λ m n k a b name off. b name off
          ∙ a name off) first.below later.below;
      pulled = pulled_then old.supply mid.supply new.supply first.pulled later.pulled;
      source = omega (arith, up, more);
      planned = later.planned ∙ first.planned;
      volume = omega (arith, rose, again);
    }

pub keeps_here : (job : List ℕ) (now : Devices) → KeepsAll job now now
keeps_here job now = record {
  below = along_nothing (OnlyBelow (staging job)) now.disk;
  pulled = pulled_nothing now.supply;
  source = le_refl now.source_faults;
  planned = refl;
  volume = le_refl now.volume_faults;
}

pub begins_here : (rules : TurnRulesValue) (turns : TurnRules) (units : List WorkUnit) (listed : List ℕ)
    (states : List Progress) (core : CoreValue) (k : ℕ) (losses : List ℕ) (first : Devices)
    → MayHaveTurns rules turns units → HaveBegun turns units listed states core k → losses ≡ []
    → AreUnderway rules core.rules units listed states core k losses first first
begins_here rules turns units listed states core k losses first may begun none =
    subst (λ t. AreUnderway rules t units listed states core k losses first first)
    (sym (ap (λ (c : CoreValue). c.rules) begun.begins))
    (subst (λ ns. AreUnderway rules turns units listed states core k ns first first) (sym none)
    (begins rules turns units listed states core k first may begun))

-- what stands behind the last turn
pub record IsOver (rules : TurnRulesValue) (turns : TurnRules) (units : List WorkUnit) (listed : List ℕ)
    (states : List Progress) (core : CoreValue) (k : ℕ) (losses : List ℕ) (first now : Devices) : Type 0 where
  pub under : AreUnderway rules turns units listed states core k losses first now
  pub ended : HaveEnded rules turns units states losses first now

pub is_over : {rules : TurnRulesValue} {turns same : TurnRules} {units : List WorkUnit} {listed : List ℕ}
    {states : List Progress} {core : CoreValue} {k : ℕ} {losses : List ℕ} {first now : Devices}
    → MayHaveTurns rules turns units → same ≡ turns
    → AreUnderway rules same units listed states core k losses first now
    → whose_turn core.rules core.place core.left ≡ None
    → IsOver rules turns units listed states core k losses first now
is_over {rules} {turns} {same} {units} {listed} {states} {core} {k} {losses} {first} {now} may is under none =
    let here : AreUnderway rules turns units listed states core k losses first now =
    subst (λ t. AreUnderway rules t units listed states core k losses first now) is under in
    record {
      under = here;
      ended = have_ended rules turns units listed states core k losses first now may here none;
    }

pub left_over : {rules : TurnRulesValue} {turns : TurnRules} {units : List WorkUnit} {listed : List ℕ}
    {states : List Progress} {core : CoreValue} {k : ℕ} {losses : List ℕ} {first now : Devices}
    → IsOver rules turns units listed states core k losses first now → IsLeft rules turns units losses first now
left_over {rules} {turns} {units} {listed} {states} {core} {k} {losses} {first} {now} over =
    underway_left rules turns units listed states core k losses first now over.under

pub results_over : {rules : TurnRulesValue} {turns : TurnRules} {units : List WorkUnit} {listed : List ℕ}
    {states : List Progress} {core : CoreValue} {k : ℕ} {losses : List ℕ} {first now : Devices}
    {results : List UnitResult} → IsOver rules turns units listed states core k losses first now
    → results ≡ results_in states → (job : Job) (s : Supply) → IsWorkedBy rules turns job → first.supply ≡ Some s
    → AreHeld s.held units → AreResults job s units losses results now.supply now.disk
results_over {rules} {turns} {units} {listed} {states} {core} {k} {losses} {first} {now} {results} over same job s
    works told held =
    are_results rules turns units listed states core k losses first now results job s over.under over.ended same works
    told held

pub given_over : {rules : TurnRulesValue} {turns : TurnRules} {units : List WorkUnit} {listed : List ℕ}
    {states : List Progress} {core : CoreValue} {k : ℕ} {losses : List ℕ} {first now : Devices}
    {results : List UnitResult} → IsOver rules turns units listed states core k losses first now
    → results ≡ results_in states → (job : Job) → IsWorkedBy rules turns job → AllGiven job units results now.disk
given_over {rules} {turns} {units} {listed} {states} {core} {k} {losses} {first} {now} {results} over same job works =
    subst (λ rs. AllGiven job units rs now.disk) (sym same)
    (all_given rules turns units states losses first now job works.name works.plan over.ended)

pub committable_over : {rules : TurnRulesValue} {turns : TurnRules} {units : List WorkUnit} {listed : List ℕ}
    {states : List Progress} {core : CoreValue} {k : ℕ} {losses : List ℕ} {first now : Devices}
    {results : List UnitResult} → MayHaveTurns rules turns units
    → IsOver rules turns units listed states core k losses first now → results ≡ results_in states
    → AreCommittable rules.job units results now.disk
committable_over {rules} {turns} {units} {listed} {states} {core} {k} {losses} {first} {now} {results} may over same =
    are_committable rules turns units states losses first now results may over.ended same

pub given_up_over : {rules : TurnRulesValue} {turns : TurnRules} {units : List WorkUnit} {listed : List ℕ}
    {states : List Progress} {core : CoreValue} {k : ℕ} {losses : List ℕ} {first now : Devices}
    {results : List UnitResult} → IsOver rules turns units listed states core k losses first now
    → results ≡ results_in states
    → RoseBy (given_up_in results * (rules.max_retries + 1)) first.source_faults now.source_faults
given_up_over {rules} {turns} {units} {listed} {states} {core} {k} {losses} {first} {now} {results} over same =
    let counted = over.under.counted in
    let few = over.ended.given_up in
    subst (λ rs. RoseBy (given_up_in rs * (rules.max_retries + 1)) first.source_faults now.source_faults) (sym same)
    (omega (arith, counted, few))

-- ---- the rules of the core stay as they are

pub with_rules : {rules : TurnRulesValue} {turns same : TurnRules} {units : List WorkUnit} {listed : List ℕ}
    {states : List Progress} {core : CoreValue} {k : ℕ} {losses : List ℕ} {first now : Devices} → turns ≡ same
    → AreUnderway rules turns units listed states core k losses first now
    → AreUnderway rules same units listed states core k losses first now
with_rules {rules} {turns} {same} {units} {listed} {states} {core} {k} {losses} {first} {now} is under =
    subst (λ t. AreUnderway rules t units listed states core k losses first now) is under

pub left_with : (rules : TurnRulesValue) (turns same : TurnRules) (units : List WorkUnit) (losses : List ℕ)
    (first now : Devices) → turns ≡ same → IsLeft rules turns units losses first now
    → IsLeft rules same units losses first now
left_with rules turns same units losses first now is left = subst (λ t. IsLeft rules t units losses first now) is left
