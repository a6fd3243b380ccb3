-- The turn of the picked unit, among all.
use Rattle.std.proofs.Common.{◌≡◌, ℕ, ◌+◌, ◌<◌, ◌^◌, true, cond, List, [], ◌∷◌, ◌++◌, length, get_or, sym}
use Rattle.std.proofs.Common.{subst, ◌∙◌, ap, arith, Some}
use Rattle.std.proofs.Math.ListN.{set}
use Rattle.std.proofs.lemmas.Option.{get_or_from_slice_get, slice_get_within}
use Rattle.gob_plan.specs.declared.plan.TurnRules.{TurnRules}
use Rattle.gob_plan.specs.declared.units.Unit.{Unit as WorkUnit}
use Rattle.gob_ledger.specs.Counted.{whose_turn}
use Rattle.gob_sched.specs.CoreValue.{CoreValue}
use Rattle.gob_task.specs.Task.{IsPullable}
use Rattle.gob_task.specs.Turn.{Devices, TurnRulesValue}
use Rattle.gob_turns.specs.declared.progress.Progress.{Progress}
use Rattle.gob_turns.specs.declared.progress.Step.{Step}
use Rattle.gob_turns.specs.Asked.{MayHaveTurns}
use Rattle.gob_turns.specs.Standing.{StandsAs, all_ahead, is_open}
use Rattle.gob_turns.specs.Underway.{AreUnderway, HasTurned, IsLeft, IsPicked, KeepsAll, KeepsOthers, StoppedIsTold}
use Rattle.gob_turns.specs.Underway.{core_after}
use Rattle.gob_turns.proofs.Ending.{stopped_left, unnoted_left}
use Rattle.gob_turns.proofs.Going.{one_step}
use Rattle.gob_turns.proofs.Picking.{contains_at, is_picked}
use Rattle.gob_turns.proofs.Places.{ahead_moves}
use Rattle.gob_turns.proofs.Pulled.{pulled_once}
use Rattle.gob_turns.proofs.Stays.{attempt_is_staged, open_listed}

-- the picked unit is at hand: its place, itself, and where it stands
pub record IsAtHand (units : List WorkUnit) (listed : List ℕ) (states : List Progress) (core : CoreValue) (n x : ℕ)
    (u : WorkUnit) (p : Progress) : Type 0 where
  pub picked : IsPicked units listed states core n
  pub place : picked.place ≡ x
  pub unit : picked.unit ≡ u
  pub state : picked.state ≡ p

pub picked_of : {rules : TurnRulesValue} {turns : TurnRules} {units : List WorkUnit} {listed : List ℕ}
    {states : List Progress} {core : CoreValue} {k n : ℕ} {losses : List ℕ} {first now : Devices}
    → AreUnderway rules turns units listed states core k losses first now
    → whose_turn core.rules core.place core.left ≡ Some n → IsPicked units listed states core n
picked_of {rules} {turns} {units} {listed} {states} {core} {k} {n} {losses} {first} {now} under is =
    is_picked units listed states core n under.rising under.left is

pub place_within : (units : List WorkUnit) (listed : List ℕ) (states : List Progress) (core : CoreValue) (n x : ℕ)
    → (picked : IsPicked units listed states core n) → x ≡ get_or listed n 0
    → (x < length units) × (x < length states)
place_within units listed states core n x picked is =
    let same : picked.place ≡ x = sym (is ∙ picked.is_place) in (
      subst (λ m. m < length units) same (slice_get_within units picked.place picked.unit picked.of_unit),
      subst (λ m. m < length states) same (slice_get_within states picked.place picked.state picked.of_state),
    )

pub at_hand : (units : List WorkUnit) (listed : List ℕ) (states : List Progress) (core : CoreValue) (n x : ℕ)
    (u : WorkUnit) (p : Progress) → IsPicked units listed states core n → x ≡ get_or listed n 0
    → u ≡ get_or units x u → p ≡ get_or states x p → IsAtHand units listed states core n x u p
at_hand units listed states core n x u p picked is of_unit of_state =
    let same : picked.place ≡ x = sym (is ∙ picked.is_place) in
    record {
      picked = picked;
      place = same;
      unit = sym (of_unit ∙ (sym (ap (λ m. get_or units m u) same)
          ∙ get_or_from_slice_get units picked.place picked.unit u picked.of_unit));
      state = sym (of_state ∙ (sym (ap (λ m. get_or states m p) same)
          ∙ get_or_from_slice_get states picked.place picked.state p picked.of_state));
    }

-- what is said of the unit that was picked is said of the one at hand, and the other way round
moved : (F : ℕ → WorkUnit → Progress → Type 0) (i j : ℕ) (u v : WorkUnit) (p q : Progress) → i ≡ j → u ≡ v → p ≡ q
    → F i u p → F j v q
moved F i j u v p q place unit state is =
    subst (λ x. F j v x) state (subst (λ x. F j x p) unit (subst (λ x. F x u p) place is))

-- ---- what the turn is given

pub stands_here : {rules : TurnRulesValue} {turns : TurnRules} {units : List WorkUnit} {listed : List ℕ}
    {states : List Progress} {core : CoreValue} {k n x : ℕ} {u : WorkUnit} {p : Progress} {losses : List ℕ}
    {first now : Devices} → AreUnderway rules turns units listed states core k losses first now
    → IsAtHand units listed states core n x u p → StandsAs rules u x now.supply now.disk p
stands_here {rules} {turns} {units} {listed} {states} {core} {k} {n} {x} {u} {p} {losses} {first} {now} under hand =
    let picked = hand.picked in
    moved (λ i v q. StandsAs rules v i now.supply now.disk q) picked.place x picked.unit u picked.state p hand.place
    hand.unit hand.state
    (under.stand picked.place picked.unit picked.state picked.of_unit picked.of_state)

pub may_here : (units : List WorkUnit) (listed : List ℕ) (states : List Progress) (core : CoreValue) (n x : ℕ)
    (u : WorkUnit) (p : Progress) → IsAtHand units listed states core n x u p → is_open p ≡ true
may_here units listed states core n x u p hand = subst (λ q. is_open q ≡ true) hand.state hand.picked.may

pub pullable_here : {rules : TurnRulesValue} {turns : TurnRules} {units : List WorkUnit} {listed : List ℕ}
    {states : List Progress} {core : CoreValue} {k n x : ℕ} {u : WorkUnit} {p : Progress} {losses : List ℕ}
    {first now : Devices} → MayHaveTurns rules turns units
    → AreUnderway rules turns units listed states core k losses first now
    → IsAtHand units listed states core n x u p → IsPullable u
pullable_here {rules} {turns} {units} {listed} {states} {core} {k} {n} {x} {u} {p} {losses} {first} {now} may under
    hand =
    let picked = hand.picked in
    subst IsPullable hand.unit
    (may.pullable picked.unit (contains_at units picked.place picked.unit picked.of_unit)
    (open_listed rules picked.unit picked.place picked.state now picked.may
    (under.stand picked.place picked.unit picked.state picked.of_unit picked.of_state)))

-- ---- what it keeps

pub keeps_all : (rules : TurnRulesValue) (i : ℕ) (old new : Devices) → KeepsOthers rules i old new
    → KeepsAll rules.job old new
keeps_all rules i old new keeps = record {
  below = attempt_is_staged rules.job i keeps.failures keeps.below;
  pulled = pulled_once old.supply new.supply keeps.pulls;
  source = keeps.source;
  planned = keeps.planned;
  volume = keeps.volume;
}

-- ---- where it was stopped

pub stopped_here : {rules : TurnRulesValue} {turns : TurnRules} {units : List WorkUnit} {listed : List ℕ}
    {states : List Progress} {core : CoreValue} {k n x : ℕ} {u : WorkUnit} {p : Progress} {losses : List ℕ}
    {old now : Devices} → MayHaveTurns rules turns units → IsAtHand units listed states core n x u p
    → StoppedIsTold rules x u p old now → KeepsOthers rules x old now → (first : Devices)
    → AreUnderway rules turns units listed states core k losses first old → IsLeft rules turns units losses first now
stopped_here {rules} {turns} {units} {listed} {states} {core} {k} {n} {x} {u} {p} {losses} {old} {now} may hand stopped
    keeps first under =
    let picked = hand.picked in
    stopped_left rules turns units listed states core k losses first old now n may under picked
    (moved (λ i v q. StoppedIsTold rules i v q old now) x picked.place u picked.unit p picked.state (sym hand.place)
    (sym hand.unit) (sym hand.state) stopped)
    keeps.source

pub turned_here : (rules : TurnRulesValue) (units : List WorkUnit) (listed : List ℕ) (states : List Progress)
    (core : CoreValue) (n x : ℕ) (u : WorkUnit) (p q : Progress) (step : Step) (old now : Devices)
    → (hand : IsAtHand units listed states core n x u p) → HasTurned rules x u p q step old now
    → HasTurned rules hand.picked.place hand.picked.unit hand.picked.state q step old now
turned_here rules units listed states core n x u p q step old now hand turned =
    let picked = hand.picked in
    moved (λ i v r. HasTurned rules i v r q step old now) x picked.place u picked.unit p picked.state (sym hand.place)
    (sym hand.unit) (sym hand.state) turned

pub unnoted_here : {rules : TurnRulesValue} {turns : TurnRules} {units : List WorkUnit} {listed : List ℕ}
    {states : List Progress} {core : CoreValue} {k n x : ℕ} {u : WorkUnit} {p q : Progress} {step : Step}
    {losses kept : List ℕ} {old now : Devices} → MayHaveTurns rules turns units
    → IsAtHand units listed states core n x u p → HasTurned rules x u p q step old now → KeepsOthers rules x old now
    → kept ≡ losses → step.failed ≡ true → (first : Devices)
    → AreUnderway rules turns units listed states core k losses first old → IsLeft rules turns units kept first now
unnoted_here {rules} {turns} {units} {listed} {states} {core} {k} {n} {x} {u} {p} {q} {step} {losses} {kept} {old}
    {now} may hand turned keeps same fails
    first under =
    subst (λ ns. IsLeft rules turns units ns first now) (sym same)
    (unnoted_left rules turns units listed states core k losses first old now n q step may under hand.picked
    (turned_here rules units listed states core n x u p q step old now hand turned) fails keeps.source)

-- ---- behind it

pub went_here : {rules : TurnRulesValue} {turns : TurnRules} {units : List WorkUnit} {listed : List ℕ}
    {states : List Progress} {core after : CoreValue} {k n x : ℕ} {u : WorkUnit} {p q : Progress} {step : Step}
    {losses kept : List ℕ} (first old now : Devices) → MayHaveTurns rules turns units
    → IsAtHand units listed states core n x u p → HasTurned rules x u p q step old now → KeepsOthers rules x old now
    → after ≡ core_after step.ended n core → kept ≡ cond step.failed (losses ++ k ∷ []) losses
    → AreUnderway rules turns units listed states core k losses first old
    → AreUnderway rules turns units listed (set states x q) after (k + 1) kept first now
went_here {rules} {turns} {units} {listed} {states} {core} {after} {k} {n} {x} {u} {p} {q} {step} {losses} {kept} first
    old now may hand turned keeps
    core_is kept_is under =
    let picked = hand.picked in
    subst (λ ns. AreUnderway rules turns units listed (set states x q) after (k + 1) ns first now) (sym kept_is)
    (subst (λ c. AreUnderway rules turns units listed (set states x q) c (k + 1)
    (cond step.failed (losses ++ k ∷ []) losses) first now) (sym core_is)
    (subst (λ i. AreUnderway rules turns units listed (set states i q) (core_after step.ended n core) (k + 1)
    (cond step.failed (losses ++ k ∷ []) losses) first now) hand.place
    (one_step rules turns units listed states core k losses first old now n q step may under picked
    (turned_here rules units listed states core n x u p q step old now hand turned)
    (subst (λ i. KeepsOthers rules i old now) (sym hand.place) keeps))))

pub fewer_here : {rules : TurnRulesValue} {units : List WorkUnit} {listed : List ℕ} {states : List Progress}
    {core : CoreValue} {n x : ℕ} {u : WorkUnit} {p q : Progress} {step : Step} {old now : Devices}
    → (hand : IsAtHand units listed states core n x u p) → HasTurned rules x u p q step old now
    → all_ahead rules.max_retries units (set states x q) < all_ahead rules.max_retries units states
fewer_here {rules} {units} {listed} {states} {core} {n} {x} {u} {p} {q} {step} {old} {now} hand turned =
    let picked = hand.picked in
    let here = turned_here rules units listed states core n x u p q step old now hand turned in
    let fewer = here.fewer in
    let sums = ahead_moves rules.max_retries units states picked.place picked.unit picked.state q picked.of_unit
    picked.of_state in
    subst (λ i. all_ahead rules.max_retries units (set states i q) < all_ahead rules.max_retries units states)
    hand.place
    (omega (arith, sums, fewer))

pub fits_here : {rules : TurnRulesValue} {turns : TurnRules} {units : List WorkUnit} {listed : List ℕ}
    {states : List Progress} {core : CoreValue} {k : ℕ} {losses : List ℕ} {first old : Devices} {later : ℕ}
    → AreUnderway rules turns units listed states core k losses first old
    → later < all_ahead rules.max_retries units states → k + 1 < 2 ^ 128
fits_here {rules} {turns} {units} {listed} {states} {core} {k} {losses} {first} {old} {later} under fewer =
    let ahead = under.ahead in omega (arith, ahead, fewer)
