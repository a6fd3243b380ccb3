-- Where the units of a run stand between two turns, against the units that still wait for theirs.
use Rattle.std.specs.Prelude.{◌≡◌, ℕ, ◌+◌, ◌*◌, ◌-◌, ◌≤◌, ◌<◌, ◌^◌, Bool, true, false, if◌then◌else◌, IfSome}
use Rattle.std.specs.Prelude.{List, [], ◌∷◌, ◌++◌, length}
use Rattle.std.specs.declared.option.Option.{Option}
use Rattle.std.specs.List.{sum_by}
use Rattle.gob_bytes.specs.Paths.{attempt_folder}
use Rattle.gob_device.specs.Disk.{Disk}
use Rattle.gob_device.specs.Supply.{Held, Pull, Supply, bytes_from}
use Rattle.gob_plan.specs.declared.units.Unit.{Unit as WorkUnit}
use Rattle.gob_plan.specs.declared.units.UnitResult.{UnitResult}
use Rattle.gob_plan.specs.declared.units.UnitResult.TheVariants as unit_result
use Rattle.gob_meaning.specs.Job.{Job}
use Rattle.gob_meaning.specs.Results.{verdict_of}
use Rattle.gob_ledger.specs.TurnLaws.{is_fault}
use Rattle.gob_ledger.specs.Turns.{TakenTurn, Waiting, gave_up, own_pulls, pulls_from, stops_within, up_to_first}
use Rattle.gob_ledger.specs.Turns.{verdict_after}
use Rattle.gob_state.specs.Committed.{verdict_in}
use Rattle.gob_task.specs.Finish.{AreStagedFor, HoldCleanly, staged_in}
use Rattle.gob_task.specs.Task.{TaskValue, HoldsSent, StandsBehind, unit_length, unit_sends}
use Rattle.gob_task.specs.Turn.{TurnRulesValue}
use Rattle.gob_turns.specs.declared.progress.Progress.{Progress}
use Rattle.gob_turns.specs.declared.progress.Progress.TheVariants.{Waits, Runs, Ended}

-- ---- the pulls that are left

-- the pulls of a unit behind so many of its bytes, of which no line stops it
abbrev pub pulls_left : Job → Held → WorkUnit → ℕ → List Pull
pulls_left job held u seen =
    up_to_first (stops_within job.plan held u) (pulls_from (u.hi - u.lo) u.part job.turns.piece (u.lo + seen) u.hi)

-- a unit that waits behind so many of its bytes
abbrev pub waiting_behind : Job → Held → ℕ → WorkUnit → ℕ → ℕ → Waiting
waiting_behind job held i u seen failures =
    record { unit = i; all = own_pulls job held u; left = pulls_left job held u seen; failures = failures }

-- what waits of a unit
abbrev pub waiting_for : Job → Held → ℕ → WorkUnit → Progress → List Waiting
waiting_for job held i u Waits = waiting_behind job held i u 0 0 ∷ []
waiting_for job held i u (Runs t) = waiting_behind job held i u t.value.machine.seen t.value.failures ∷ []
waiting_for job held i u (Ended r) = []

-- it may have a turn
abbrev pub is_open : Progress → Bool
is_open Waits = true
is_open (Runs t) = true
is_open (Ended r) = false

-- the unit's number, where it may have a turn
abbrev pub number_for : ℕ → WorkUnit → Progress → List ℕ
number_for i u p = if is_open p then i ∷ [] else []

-- what there is of each unit, where the first has this number
abbrev pub gather : {X : Type 0} → (ℕ → WorkUnit → Progress → List X) → ℕ → List WorkUnit → List Progress → List X
gather f i [] ps = []
gather f i (u ∷ us) [] = []
gather f i (u ∷ us) (p ∷ ps) = f i u p ++ gather f (i + 1) us ps

-- all that waits
abbrev pub all_waiting : Job → Held → List WorkUnit → List Progress → List Waiting
all_waiting job held us ps = gather (waiting_for job held) 0 us ps

-- the numbers of those that may have a turn
abbrev pub open_numbers : List WorkUnit → List Progress → List ℕ
open_numbers us ps = gather number_for 0 us ps

-- the results of those that have ended
abbrev pub results_in : List Progress → List UnitResult
results_in [] = []
results_in (Waits ∷ ps) = results_in ps
results_in (Runs t ∷ ps) = results_in ps
results_in (Ended r ∷ ps) = r ∷ results_in ps

-- ---- one unit

-- the task of a unit: what it was fed, and what its files hold
pub record IsTaskOf (rules : TurnRulesValue) (u : WorkUnit) (i : ℕ) (t : TaskValue) (supply : Option Supply)
    (disk : Option Disk) : Type 0 where
  pub fed : List ℕ
  pub unit : t.unit ≡ u
  pub index : t.index ≡ i
  pub few : t.failures ≤ rules.max_retries
  pub stands : StandsBehind rules.job rules.plan t fed
  pub bytes : IfSome supply (λ s. fed ≡ bytes_from s.held u.part u.lo (length fed))
  pub holds : IfSome disk (λ d. HoldsSent rules.plan t fed d.files)

-- a good unit: its bytes, and what its files hold
pub record IsGoodUnit (rules : TurnRulesValue) (u : WorkUnit) (i : ℕ) (r : UnitResult) (supply : Option Supply)
    (disk : Option Disk) : Type 0 where
  pub bytes : List ℕ
  pub failures : ℕ
  pub small : failures < 2 ^ 32
  pub whole : length bytes ≡ u.hi - u.lo
  pub verdict : verdict_in r ≡ verdict_of rules.plan u bytes
  pub told : IfSome supply (λ s. bytes ≡ bytes_from s.held u.part u.lo (u.hi - u.lo))
  pub files : AreStagedFor rules.job rules.plan u (attempt_folder rules.job i failures)
      (unit_sends rules.plan u bytes) (staged_in r)
  pub hold : IfSome disk (λ d. HoldCleanly rules.plan u rules.job (unit_sends rules.plan u bytes) (staged_in r) d.files)

-- what is known of a unit's result: all where it is good
abbrev pub HasResult : TurnRulesValue → WorkUnit → ℕ → Option Supply → Option Disk → UnitResult → Type 0
HasResult rules u i supply disk (unit_result.Good counts warnings staged) =
    IsGoodUnit rules u i (unit_result.Good counts warnings staged) supply disk
HasResult rules u i supply disk (unit_result.Failed cause) = Unit {0}

-- a unit stands so
abbrev pub StandsAs : TurnRulesValue → WorkUnit → ℕ → Option Supply → Option Disk → Progress → Type 0
StandsAs rules u i supply disk Waits = u.listed ≡ true
StandsAs rules u i supply disk (Runs t) = IsTaskOf rules u i t.value supply disk
StandsAs rules u i supply disk (Ended r) = HasResult rules u i supply disk r

-- what a unit that has ended was judged, behind the turns that were had; no failure has ended another
abbrev pub IsJudged : Job → Held → List TakenTurn → ℕ → WorkUnit → Progress → Type 0
IsJudged job held had i u Waits = gave_up had i ≡ false
IsJudged job held had i u (Runs t) = gave_up had i ≡ false
IsJudged job held had i u (Ended r) = verdict_in r ≡ verdict_after job held had (i, u)

-- ---- how many turns can come, and how many failed

-- the most turns that a unit can still have: one for each of its bytes, in each attempt
abbrev pub turns_ahead : ℕ → WorkUnit → Progress → ℕ
turns_ahead retries u Waits = (retries + 1) * unit_length u
turns_ahead retries u (Runs t) =
    (retries - t.value.failures) * unit_length u + (unit_length u - t.value.machine.seen)
turns_ahead retries u (Ended r) = 0

abbrev pub all_ahead : ℕ → List WorkUnit → List Progress → ℕ
all_ahead retries [] ps = 0
all_ahead retries (u ∷ us) [] = 0
all_ahead retries (u ∷ us) (p ∷ ps) = turns_ahead retries u p + all_ahead retries us ps

-- how often a unit failed, and once more than it may where it was given up
abbrev pub failures_so_far : ℕ → Progress → ℕ
failures_so_far retries Waits = 0
failures_so_far retries (Runs t) = t.value.failures
failures_so_far retries (Ended r) = if is_fault (verdict_in r) then retries + 1 else 0

abbrev pub all_failures : ℕ → List Progress → ℕ
all_failures retries ps = sum_by (failures_so_far retries) ps
