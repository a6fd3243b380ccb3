-- The turns of a run in the middle of it: those that were had, and the units that still wait for theirs.
use Rattle.std.specs.Prelude.{◌≡◌, ℕ, ◌+◌, ◌*◌, ◌<◌, ◌≤◌, List, ◌++◌, length, slice_get}
use Rattle.std.specs.declared.option.Option.TheVariants.{Some}
use Rattle.std.specs.List.{AllByRecursion, sum_by}
use Rattle.gob_device.specs.Supply.{Held}
use Rattle.gob_plan.specs.declared.units.Unit.{Unit as WorkUnit}
use Rattle.gob_meaning.specs.Job.{Job}
use Rattle.gob_ledger.specs.Turns.{TakenTurn, Waiting, place_at, replace_at, turns_from, turns_of}
use Rattle.gob_ledger.specs.Turns.{waiting_at_first}

-- no failing turn is behind these but from this number on
pub record GoesOnFrom (k : ℕ) (failed all : List ℕ) : Type 0 where
  pub more : List ℕ
  pub parts : all ≡ failed ++ more
  pub behind : AllByRecursion (λ n. k ≤ n) more

-- the most turns that a run over these units can have
abbrev pub most_turns : Job → Held → List WorkUnit → ℕ
most_turns job held units = (job.max_retries + 1) * sum_by (λ w. length w.all) (waiting_at_first job held units)

-- k turns were had, of which these failed, and these units wait: whichever turns fail from now on, the turns of the run
-- are those that were had, and then those of the units that wait
pub record TurnsSoFar (job : Job) (held : Held) (units : List WorkUnit) (failed : List ℕ) (k : ℕ)
    (had : List TakenTurn) (waiting : List Waiting) : Type 0 where
  pub before : AllByRecursion (λ n. n < k) failed
  pub goes : (all : List ℕ) (bound : ℕ) → GoesOnFrom k failed all → most_turns job held units ≤ bound + k
      → turns_of job held units all ≡ had ++ turns_from bound job all k waiting

-- the unit whose turn it is
abbrev pub HasTurn : Job → ℕ → List Waiting → Waiting → Type 0
HasTurn job k waiting w = slice_get waiting (place_at job.turns k (length waiting)) ≡ Some w

-- what is left of it takes its place
abbrev pub with_left : Job → ℕ → List Waiting → List Waiting → List Waiting
with_left job k left waiting = replace_at (place_at job.turns k (length waiting)) left waiting
