-- Whose turn it is and what the turn pulls, counted from the turns had so far.
use Rattle.std.specs.Prelude.{◌≡◌, ℕ, ◌<◌, ◌%◌, Bool, not, ◌&&◌, ◌||◌, nat_eq, nat_le, nat_lt, if◌then◌else◌}
use Rattle.std.specs.Prelude.{List, [], ◌∷◌, map, length, take, is_none, slice_get, slice_index}
use Rattle.std.specs.declared.option.Option.{Option}
use Rattle.std.specs.declared.option.Option.TheVariants.{None}
use Rattle.std.specs.Option.{option_map}
use Rattle.std.specs.List.{count_by, enumerate_from, filter, list_any}
use Rattle.gob_device.specs.Supply.{Held, Pull}
use Rattle.gob_plan.specs.declared.plan.TurnRules.{TurnRules}
use Rattle.gob_plan.specs.declared.units.Unit.{Unit as WorkUnit}
use Rattle.gob_meaning.specs.Job.{Job}
use Rattle.gob_ledger.specs.Turns.{TakenTurn, member, own_pulls, pulls_in}

-- of those that are left, in their order, the one whose turn number k is: among the first few, by the schedule
abbrev pub whose_turn : {A : Type 0} → TurnRules → ℕ → List A → Option A
whose_turn rules k left =
    let active = take rules.slots left in
    slice_get active (slice_index rules.schedule (k % length rules.schedule) % length active)

-- the turns of one unit
abbrev pub turns_of_unit : ℕ → List TakenTurn → List TakenTurn
turns_of_unit u turns = filter (λ t. nat_eq t.unit u) turns

-- the turn's pull failed
abbrev pub has_failed : TakenTurn → Bool
has_failed t = is_none t.pull

-- how often the unit failed
abbrev pub failure_count : ℕ → List TakenTurn → ℕ
failure_count u turns = count_by has_failed (turns_of_unit u turns)

-- the turns behind the last one that failed: those of the last attempt
abbrev pub last_attempt : List TakenTurn → List TakenTurn
last_attempt [] = []
last_attempt (t ∷ ts) = if list_any has_failed (t ∷ ts) then last_attempt ts else t ∷ ts

-- what the unit has pulled in its last attempt
abbrev pub attempt_pulls : ℕ → List TakenTurn → List Pull
attempt_pulls u turns = pulls_in (last_attempt (turns_of_unit u turns))

-- a listed unit: its number and its own pulls
pub record ListedUnit : Type 0 where
  pub unit : ℕ
  pub own : List Pull

-- the listed units, in their order
abbrev pub listed_units : Job → Held → List WorkUnit → List ListedUnit
listed_units job held units =
    map (λ e. record { unit = e.0; own = own_pulls job held e.1 }) (filter (λ e. e.1.listed) (enumerate_from 0 units))

-- in these turns the unit has made the last of its pulls, or has failed once too often
abbrev pub has_ended : ℕ → List TakenTurn → ListedUnit → Bool
has_ended retries turns u =
    nat_le (length u.own) (length (attempt_pulls u.unit turns)) || nat_lt retries (failure_count u.unit turns)

-- those that haven't ended in these turns
abbrev pub units_left : ℕ → List ListedUnit → List TakenTurn → List ListedUnit
units_left retries us turns = filter (λ u. not (has_ended retries turns u)) us

-- the unit's turn behind these turns: its next pull, or a failure, which is the last that it may have or not
abbrev pub turn_behind : ℕ → Bool → List TakenTurn → ListedUnit → TakenTurn
turn_behind retries fails turns u = record {
  unit = u.unit;
  pull = if fails then None else slice_get u.own (length (attempt_pulls u.unit turns));
  gave_up = fails && nat_eq (failure_count u.unit turns) retries;
}

-- the turn that comes behind these turns, where a unit is left
abbrev pub next_turn : Job → List ListedUnit → List ℕ → List TakenTurn → Option TakenTurn
next_turn job us failing turns =
    let k = length turns in
    option_map (turn_behind job.max_retries (member k failing) turns)
    (whose_turn job.turns k (units_left job.max_retries us turns))

-- each turn is the one that comes behind those before it, until no unit is left
pub record AreScheduled (job : Job) (us : List ListedUnit) (failing : List ℕ) (turns : List TakenTurn) : Type 0 where
  pub each : (k : ℕ) → k < length turns → slice_get turns k ≡ next_turn job us failing (take k turns)
  pub all : units_left job.max_retries us turns ≡ []
