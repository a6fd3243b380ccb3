-- A run between two turns, and what one turn makes of it.
use Rattle.std.specs.Prelude.{◌≡◌, ◌⊎◌, ℕ, ◌+◌, ◌%◌, ◌≤◌, ◌<◌, ◌^◌, Bool, true, false, not, if◌then◌else◌}
use Rattle.std.specs.Prelude.{List, [], ◌∷◌, length, map, take, get_or, slice_get, slice_index, option_map}
use Rattle.std.specs.declared.option.Option.{Option}
use Rattle.std.specs.declared.option.Option.TheVariants.{Some}
use Rattle.std.specs.List.{Contains}
use Rattle.gob_device.specs.Causes.{Rose, RoseBy}
use Rattle.gob_device.specs.Disk.{Along}
use Rattle.gob_device.specs.Supply.{Held, Pull, Supply, bytes_at, with_pull, with_pulls}
use Rattle.gob_plan.specs.declared.plan.TurnRules.{TurnRules}
use Rattle.gob_plan.specs.declared.units.Cause.TheVariants.{Fault}
use Rattle.gob_plan.specs.declared.units.Unit.{Unit as WorkUnit}
use Rattle.gob_meaning.specs.Job.{Job}
use Rattle.gob_meaning.specs.Results.{failed}
use Rattle.gob_bytes.specs.Paths.{attempt_folder, staging}
use Rattle.gob_ledger.specs.Turns.{TakenTurn, Waiting, first_pull, one_turn, pulls_in, unit_verdict}
use Rattle.gob_recovery.specs.Commits.{OnlyBelow}
use Rattle.gob_state.specs.Committed.{verdict_in}
use Rattle.gob_sched.specs.CoreValue.{CoreValue, after_end, after_turn, is_rising_below}
use Rattle.gob_task.specs.Turn.{Devices, TurnRulesValue}
use Rattle.gob_turns.specs.Asked.{AreHeld, IsWorkedBy}
use Rattle.gob_turns.specs.Standing.{StandsAs, IsJudged, all_ahead, all_failures, all_waiting, failures_so_far}
use Rattle.gob_turns.specs.Standing.{is_open, open_numbers, turns_ahead, waiting_for}
use Rattle.gob_turns.specs.Taken.{AreFirstPulls, HasPulled}
use Rattle.gob_turns.specs.Turning.{TurnsSoFar}
use Rattle.gob_turns.specs.declared.progress.Progress.{Progress}
use Rattle.gob_turns.specs.declared.progress.Progress.TheVariants.{Waits, Runs, Ended}
use Rattle.gob_turns.specs.declared.progress.Step.{Step}

-- ---- one turn of one unit

-- where a failure ended the unit its verdict is Fault, else that of its bytes
abbrev pub IsJudgedNow : Job → Held → WorkUnit → Bool → Progress → Type 0
IsJudgedNow job held u gave Waits = gave ≡ false
IsJudgedNow job held u gave (Runs t) = gave ≡ false
IsJudgedNow job held u gave (Ended r) = verdict_in r ≡ (if gave then failed Fault else unit_verdict job held u)

-- the turn of this waiting unit, and what it leaves
pub record IsTurnOf (job : Job) (s : Supply) (i : ℕ) (u : WorkUnit) (w : Waiting) (fails : Bool) (q : Progress)
    (now : Option Supply) : Type 0 where
  pub supply : now ≡ Some (with_pulls (pulls_in ((one_turn job fails w).0 ∷ [])) s)
  pub left : (one_turn job fails w).1 ≡ waiting_for job s.held i u q
  pub judged : IsJudgedNow job s.held u (one_turn job fails w).0.gave_up q

-- a job whose turns go by these rules
pub record GoesBy (rules : TurnRulesValue) (job : Job) : Type 0 where
  pub plan : job.plan ≡ rules.plan
  pub piece : job.turns.piece ≡ rules.piece
  pub retries : job.max_retries ≡ rules.max_retries

-- the same for each job of the rules, where the source tells
abbrev pub TurnIsTold : TurnRulesValue → ℕ → WorkUnit → Progress → Progress → Bool → Devices → Devices → Type 0
TurnIsTold rules i u p q fails old new = (job : Job) (s : Supply) (w : Waiting) → GoesBy rules job
    → old.supply ≡ Some s → u.hi ≤ length (bytes_at s.held u.part) → waiting_for job s.held i u p ≡ w ∷ []
    → IsTurnOf job s i u w fails q new.supply

-- a turn of a unit that may have one
pub record HasTurned (rules : TurnRulesValue) (i : ℕ) (u : WorkUnit) (p q : Progress) (step : Step) (old new : Devices)
    : Type 0 where
  pub ended : step.ended ≡ not (is_open q)
  pub stands : StandsAs rules u i new.supply new.disk q
  pub fewer : turns_ahead rules.max_retries u q < turns_ahead rules.max_retries u p
  pub failures : failures_so_far rules.max_retries q
      ≤ failures_so_far rules.max_retries p + (if step.failed then 1 else 0)
  pub cause : step.failed ≡ true → Rose old.source_faults new.source_faults
  pub told : TurnIsTold rules i u p q step.failed old new

-- the device tells of one more pull, or as before
abbrev pub AtMostOnePull : Option Supply → Option Supply → Type 0
AtMostOnePull old new = (new ≡ old) ⊎ ((pull : Pull) × (new ≡ option_map (with_pull pull) old))

-- what each turn keeps, whatever it answers: nothing but one attempt of the unit differs
pub record KeepsOthers (rules : TurnRulesValue) (i : ℕ) (old new : Devices) : Type 0 where
  pub failures : ℕ
  pub small : failures < 2 ^ 32
  pub below : Along (OnlyBelow (attempt_folder rules.job i failures)) old.disk new.disk
  pub source : old.source_faults ≤ new.source_faults
  pub planned : new.plan_faults ≡ old.plan_faults
  pub volume : old.volume_faults ≤ new.volume_faults
  pub pulls : AtMostOnePull old.supply new.supply

-- a turn that was stopped has pulled nothing, or the next pull of its unit
abbrev pub StoppedIsTold : TurnRulesValue → ℕ → WorkUnit → Progress → Devices → Devices → Type 0
StoppedIsTold rules i u p old new = (job : Job) (s : Supply) (w : Waiting) → GoesBy rules job
    → old.supply ≡ Some s → waiting_for job s.held i u p ≡ w ∷ []
    → (new.supply ≡ Some s)
    ⊎ ((pull : Pull) × (first_pull w.left ≡ Some pull) × (new.supply ≡ Some (with_pull pull s)))

-- ---- all units

-- the turns that were had are those of the run, and these are its pulls
pub record AreRunTurns (job : Job) (s : Supply) (units : List WorkUnit) (states : List Progress) (k : ℕ)
    (failed : List ℕ)
    (now : Option Supply) : Type 0 where
  pub had : List TakenTurn
  pub so_far : TurnsSoFar job s.held units failed k had (all_waiting job s.held units states)
  pub supply : now ≡ Some (with_pulls (pulls_in had) s)
  pub judged : (i : ℕ) (u : WorkUnit) (p : Progress) → slice_get units i ≡ Some u → slice_get states i ≡ Some p
      → IsJudged job s.held had i u p

-- the units stand as they do behind so many turns
pub record AreUnderway (rules : TurnRulesValue) (turns : TurnRules) (units : List WorkUnit) (listed : List ℕ)
    (states : List Progress) (core : CoreValue) (k : ℕ) (failed : List ℕ) (old new : Devices) : Type 0 where
  pub number : length states ≡ length units
  pub stand : (i : ℕ) (u : WorkUnit) (p : Progress) → slice_get units i ≡ Some u → slice_get states i ≡ Some p
      → StandsAs rules u i new.supply new.disk p
  pub by_rules : core.rules ≡ turns
  pub place : core.place ≡ k % length turns.schedule
  pub rising : is_rising_below core.left (length listed) ≡ true
  pub left : map (λ n. get_or listed n 0) core.left ≡ open_numbers units states
  pub ahead : k + all_ahead rules.max_retries units states < 2 ^ 128
  pub numbered : is_rising_below failed k ≡ true
  pub counted : RoseBy (length failed) old.source_faults new.source_faults
  pub failures : all_failures rules.max_retries states ≤ length failed
  pub told : (job : Job) (s : Supply) → IsWorkedBy rules turns job → old.supply ≡ Some s → AreHeld s.held units
      → AreRunTurns job s units states k failed new.supply

-- what any number of turns keeps: nothing but staged files differs, a source tells of more pulls alone, and no count of
-- faults falls
pub record KeepsAll (job : List ℕ) (old new : Devices) : Type 0 where
  pub below : Along (OnlyBelow (staging job)) old.disk new.disk
  pub pulled : HasPulled old.supply new.supply
  pub source : old.source_faults ≤ new.source_faults
  pub planned : new.plan_faults ≡ old.plan_faults
  pub volume : old.volume_faults ≤ new.volume_faults

-- what is left wherever the turns are stopped
pub record IsLeft (rules : TurnRulesValue) (turns : TurnRules) (units : List WorkUnit) (failed : List ℕ)
    (old new : Devices) : Type 0 where
  pub rising : (k : ℕ) × (is_rising_below failed k ≡ true)
  pub counted : RoseBy (length failed) old.source_faults new.source_faults
  pub told : (job : Job) (s : Supply) → IsWorkedBy rules turns job → old.supply ≡ Some s → AreHeld s.held units
      → AreFirstPulls job s units failed new.supply

-- the core behind a turn of this unit, which ended it or not
abbrev pub core_after : Bool → ℕ → CoreValue → CoreValue
core_after true n core = after_end n core
core_after false n core = after_turn core

-- the turn of the unit whose number the core picked
pub record IsPicked (units : List WorkUnit) (listed : List ℕ) (states : List Progress) (core : CoreValue) (n : ℕ)
    : Type 0 where
  pub place : ℕ
  pub at : ℕ
  pub unit : WorkUnit
  pub state : Progress
  pub within : n < length listed
  pub is_place : get_or listed n 0 ≡ place
  pub of_unit : slice_get units place ≡ Some unit
  pub of_state : slice_get states place ≡ Some state
  pub may : is_open state ≡ true
  pub active : Contains (take core.rules.slots core.left) n
  pub left : slice_get core.left at ≡ Some n
  pub number : slice_get (open_numbers units states) at ≡ Some place
  pub turn : at ≡ slice_index core.rules.schedule (core.place % length core.rules.schedule)
      % length (take core.rules.slots core.left)
