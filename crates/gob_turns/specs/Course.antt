-- How the turns of a run begin.
use Rattle.std.specs.Prelude.{◌≡◌, ℕ, ◌+◌, if◌then◌else◌, List, [], ◌∷◌, length, map}
use Rattle.gob_plan.specs.declared.plan.TurnRules.{TurnRules}
use Rattle.gob_plan.specs.declared.units.Cause.TheVariants.{Gone}
use Rattle.gob_plan.specs.declared.units.Unit.{Unit as WorkUnit}
use Rattle.gob_plan.specs.declared.units.UnitResult.TheVariants as unit_result
use Rattle.gob_sched.specs.CoreValue.{CoreValue, core_at_start}
use Rattle.gob_turns.specs.declared.progress.Progress.{Progress}
use Rattle.gob_turns.specs.declared.progress.Progress.TheVariants.{Waits, Ended}

-- a unit that isn't listed is gone
abbrev pub first_state : WorkUnit → Progress
first_state u = if u.listed then Waits else Ended (unit_result.Failed Gone)

-- the places of the listed units, where the first unit has this one
abbrev pub listed_from : ℕ → List WorkUnit → List ℕ
listed_from i [] = []
listed_from i (u ∷ us) = if u.listed then i ∷ listed_from (i + 1) us else listed_from (i + 1) us

-- no unit has had a turn
pub record HaveBegun (rules : TurnRules) (units : List WorkUnit) (listed : List ℕ) (states : List Progress)
    (core : CoreValue) (turn : ℕ) : Type 0 where
  pub all : states ≡ map first_state units
  pub places : listed ≡ listed_from 0 units
  pub begins : core ≡ core_at_start rules (length listed)
  pub none : turn ≡ 0
