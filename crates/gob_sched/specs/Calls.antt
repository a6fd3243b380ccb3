-- Lists of calls of the core, and the law of turns over them.
use Rattle.std.specs.Prelude.{◌≡◌, ℕ, ◌<◌, Bool, false, not, nat_eq, List, [], ◌∷◌, filter, length, take, Contains}
use Rattle.std.specs.List.{list_any, range_with_len}
use Rattle.gob_plan.specs.declared.plan.TurnRules.{TurnRules}
use Rattle.gob_ledger.specs.Counted.{whose_turn}
use Rattle.gob_sched.specs.CoreValue.{CoreValue, after_end, after_turn, core_at_start}

-- a turn is over, or with it a unit has ended
pub data Call : Type 0 where
  turn_done : Call
  task_ended : (unit : ℕ) → Call

-- the unit that ends has to be active
abbrev pub MayCall : CoreValue → Call → Type 0
MayCall c turn_done = Unit {0}
MayCall c (task_ended unit) = Contains (take c.rules.slots c.left) unit

abbrev pub after_call : CoreValue → Call → CoreValue
after_call c turn_done = after_turn c
after_call c (task_ended unit) = after_end unit c

-- calls one after the other, each of which may be made
abbrev pub MayCallAll : CoreValue → List Call → Type 0
MayCallAll c [] = Unit {0}
MayCallAll c (x ∷ xs) = MayCall c x × MayCallAll (after_call c x) xs

abbrev pub core_after_calls : CoreValue → List Call → CoreValue
core_after_calls c [] = c
core_after_calls c (x ∷ xs) = core_after_calls (after_call c x) xs

-- the call ended this unit
abbrev pub ends_unit : ℕ → Call → Bool
ends_unit unit turn_done = false
ends_unit unit (task_ended other) = nat_eq unit other

-- the units that haven't ended in these calls, in their order
abbrev pub not_ended : ℕ → List Call → List ℕ
not_ended units calls = filter (λ u. not (list_any (ends_unit u) calls)) (range_with_len 0 units)

-- after every list of calls the core picks, of those units, the one whose turn has the number of the calls so far
abbrev pub TurnsFollowTheSchedule : Type 0
TurnsFollowTheSchedule = (rules : TurnRules) (units : ℕ) (calls : List Call) → 0 < length rules.schedule
    → MayCallAll (core_at_start rules units) calls
    → let c = core_after_calls (core_at_start rules units) calls in
    whose_turn c.rules c.place c.left ≡ whose_turn rules (length calls) (not_ended units calls)
