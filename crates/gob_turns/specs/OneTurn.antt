-- The steps of one unit's turn: its task, what the task's turn came to, and where the unit then stands.
use Rattle.std.specs.Prelude.{◌≡◌, ℕ, ◌-◌, ◌*◌, ◌+◌, Bool, true, false, List, [], ◌∷◌}
use Rattle.std.specs.declared.option.Option.{Option}
use Rattle.gob_device.specs.Disk.{Disk}
use Rattle.gob_device.specs.Supply.{Held, Supply}
use Rattle.gob_plan.specs.declared.units.Unit.{Unit as WorkUnit}
use Rattle.gob_plan.specs.declared.units.UnitResult.TheVariants as unit_result
use Rattle.gob_meaning.specs.Job.{Job}
use Rattle.gob_meaning.specs.Results.{failed}
use Rattle.gob_ledger.specs.TurnLaws.{is_fault}
use Rattle.gob_task.specs.Finish.{IsFinished}
use Rattle.gob_task.specs.Task.{HasBegun, IsWhole, TaskValue, unit_length}
use Rattle.gob_task.specs.Turn.{Devices, TurnRulesValue}
use Rattle.gob_task.specs.declared.task.Turn.{Turn}
use Rattle.gob_task.specs.declared.task.Turn.TheVariants as turn
use Rattle.gob_turns.specs.declared.progress.Progress.{Progress}
use Rattle.gob_turns.specs.declared.progress.Progress.TheVariants.{Waits, Runs, Ended}
use Rattle.gob_turns.specs.Standing.{failures_so_far, turns_ahead, waiting_behind, waiting_for}

-- what a source and a volume tell, and their counts of faults
abbrev pub devices : Option Supply → ℕ → ℕ → Option Disk → ℕ → Devices
devices supply source_faults plan_faults disk volume_faults = record {
  supply = supply;
  source_faults = source_faults;
  plan_faults = plan_faults;
  disk = disk;
  volume_faults = volume_faults;
}

-- the task that has the turn: the unit's, or a new one before its first turn
abbrev pub IsNextTask : TurnRulesValue → WorkUnit → ℕ → Progress → TaskValue → Type 0
IsNextTask rules u i Waits t = HasBegun rules.job rules.plan u i 0 t
IsNextTask rules u i (Runs b) t = t ≡ b.value
IsNextTask rules u i (Ended r) t = ⊥

-- it stands where the unit does
pub record StandsWhere (rules : TurnRulesValue) (u : WorkUnit) (i : ℕ) (p : Progress) (t : TaskValue) : Type 0 where
  pub waits : (job : Job) (held : Held)
      → waiting_for job held i u p ≡ waiting_behind job held i u t.machine.seen t.failures ∷ []
  pub ahead : turns_ahead rules.max_retries u p
      ≡ (rules.max_retries - t.failures) * unit_length u + (unit_length u - t.machine.seen)
  pub failures : failures_so_far rules.max_retries p ≡ t.failures

-- the pull of the turn failed
abbrev pub fails_in : Turn → Bool
fails_in turn.Going = false
fails_in turn.Retry = true
fails_in (turn.Failed cause) = is_fault (failed cause)
fails_in turn.Whole = false

-- the unit's task goes on
abbrev pub GoesOnWith : TaskValue → Progress → Type 0
GoesOnWith t Waits = ⊥
GoesOnWith t (Runs b) = b.value ≡ t
GoesOnWith t (Ended r) = ⊥

-- a good unit has ended
abbrev pub HasFinished : TurnRulesValue → TaskValue → Option Disk → Option Disk → Progress → Type 0
HasFinished rules t old new Waits = ⊥
HasFinished rules t old new (Runs b) = ⊥
HasFinished rules t old new (Ended r) = (fed : List ℕ) → IsWhole rules.job rules.plan t fed
    → IsFinished rules t fed r old new

-- where the unit stands behind the task's turn
abbrev pub StandsThen : TurnRulesValue → Turn → TaskValue → Option Disk → Option Disk → Progress → Type 0
StandsThen rules turn.Going t old new q = GoesOnWith t q × (new ≡ old)
StandsThen rules turn.Retry t old new q = GoesOnWith t q × (new ≡ old)
StandsThen rules (turn.Failed cause) t old new q = (q ≡ Ended (unit_result.Failed cause)) × (new ≡ old)
StandsThen rules turn.Whole t old new q = HasFinished rules t old new q

-- nothing but the end of a good unit changes the volume behind the turn
abbrev pub StaysStill : Turn → Option Disk → Option Disk → Type 0
StaysStill turn.Going old new = new ≡ old
StaysStill turn.Retry old new = new ≡ old
StaysStill (turn.Failed cause) old new = new ≡ old
StaysStill turn.Whole old new = Unit {0}
