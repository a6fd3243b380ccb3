-- The rules and the units of the tests.
use Rattle.std.specs.Prelude.{ℕ, true, List, [], ◌∷◌, codes}
use Rattle.gob_plan.specs.declared.plan.Plan.{Plan}
use Rattle.gob_plan.specs.declared.plan.TurnRules.{TurnRules}
use Rattle.gob_plan.specs.declared.units.Unit.{Unit as WorkUnit}
use Rattle.gob_task.specs.Turn.{TurnRulesValue}

-- the job `j1` with this plan, in pieces of this length, and with one retry
abbrev pub rules_with : Plan → ℕ → TurnRulesValue
rules_with plan piece = record { job = codes "j1"; plan = plan; piece = piece; max_retries = 1 }

-- two units at a time, the second one first, in pieces of three bytes
abbrev pub turns_given : TurnRules
turns_given = record { slots = 2; piece = 3; schedule = 1 ∷ 0 ∷ [] }

-- a listed unit from the beginning of its partition
abbrev pub unit_to : List ℕ → ℕ → WorkUnit
unit_to part hi = record { part = part; lo = 0; hi = hi; fresh = true; listed = true }

abbrev pub given_units : List WorkUnit
given_units = unit_to (codes "a.log") 8 ∷ unit_to (codes "b.log") 5 ∷ []
