-- The laws of a run's turns, one after the other.
use Rattle.std.specs.Prelude.{◌≡◌, ℕ, ◌+◌, ◌<◌, true, false, List, [], ◌∷◌, ◌++◌}
use Rattle.gob_device.specs.Supply.{Held}
use Rattle.gob_plan.specs.declared.units.Unit.{Unit as WorkUnit}
use Rattle.gob_meaning.specs.Job.{Job}
use Rattle.gob_ledger.specs.Turns.{TakenTurn, Waiting, one_turn, turns_of, waiting_at_first}
use Rattle.gob_ledger.specs.TurnLaws.{HaveBytes}
use Rattle.gob_turns.specs.Turning.{HasTurn, TurnsSoFar, with_left}

abbrev pub NoTurnAtFirst : Type 0
NoTurnAtFirst = (job : Job) (held : Held) (units : List WorkUnit) → 0 < job.turns.slots → HaveBytes units
    → TurnsSoFar job held units [] 0 [] (waiting_at_first job held units)

-- one more turn, whose pull is answered
abbrev pub OneMoreTurn : Type 0
OneMoreTurn = (job : Job) (held : Held) (units : List WorkUnit) (failed : List ℕ) (k : ℕ) (had : List TakenTurn)
    (waiting : List Waiting) (w : Waiting) → HasTurn job k waiting w
    → TurnsSoFar job held units failed k had waiting
    → let t = one_turn job false w in
    TurnsSoFar job held units failed (k + 1) (had ++ t.0 ∷ []) (with_left job k t.1 waiting)

-- one more turn, whose pull fails
abbrev pub OneMoreFailure : Type 0
OneMoreFailure = (job : Job) (held : Held) (units : List WorkUnit) (failed : List ℕ) (k : ℕ) (had : List TakenTurn)
    (waiting : List Waiting) (w : Waiting) → HasTurn job k waiting w
    → TurnsSoFar job held units failed k had waiting
    → let t = one_turn job true w in
    TurnsSoFar job held units (failed ++ k ∷ []) (k + 1) (had ++ t.0 ∷ []) (with_left job k t.1 waiting)

-- where no unit waits the turns that were had are those of the run
abbrev pub LastTurn : Type 0
LastTurn = (job : Job) (held : Held) (units : List WorkUnit) (failed : List ℕ) (k : ℕ) (had : List TakenTurn)
    → TurnsSoFar job held units failed k had [] → turns_of job held units failed ≡ had
