-- What one turn of a task does.
use Rattle.std.specs.Prelude.{◌≡◌, ◌⊎◌, ℕ, ◌+◌, ◌-◌, ◌<◌, ◌≤◌, min, Bool, not, ◌||◌, nat_lt, if◌then◌else◌}
use Rattle.std.specs.Prelude.{List, ◌++◌, length, option_map, IfSome, is_some}
use Rattle.std.specs.declared.option.Option.{Option}
use Rattle.std.specs.declared.result.Result.{Result}
use Rattle.std.specs.declared.result.Result.TheVariants.{Ok, Err}
use Rattle.gob_device.specs.Causes.{Rose}
use Rattle.gob_device.specs.Disk.{Along, Both, Disk}
use Rattle.gob_device.specs.Supply.{Pull, Supply, bytes_from, with_pull}
use Rattle.gob_meaning.specs.Fold.{stop_of, unit_fold}
use Rattle.gob_meaning.specs.Results.{Verdict, good, failed, verdict_of}
use Rattle.gob_plan.specs.declared.plan.Plan.{Plan}
use Rattle.gob_plan.specs.declared.units.Cause.TheVariants.{Fault, Gone}
use Rattle.gob_plan.specs.declared.units.Counts.{Counts}
use Rattle.gob_plan.specs.declared.units.Unit.{Unit as WorkUnit}
use Rattle.gob_pipeline.specs.Made.{AreSlots, Buffers, filled_targets}
use Rattle.gob_recovery.specs.Commits.{OnlyBelow}
use Rattle.gob_stage.specs.declared.fault.StageFault.{StageFault}
use Rattle.gob_stage.specs.declared.fault.StageFault.TheVariants as stage_fault
use Rattle.gob_task.specs.Staging.{after_stagings, appends_of}
use Rattle.gob_task.specs.Task.{TaskValue, HasBegun, HoldsSent, HoldsToStop, IsWhole, StandsBehind, unit_length}
use Rattle.gob_task.specs.declared.fault.TurnFault.{TurnFault}
use Rattle.gob_task.specs.declared.fault.TurnFault.TheVariants as turn_fault
use Rattle.gob_task.specs.declared.task.Turn.{Turn}
use Rattle.gob_task.specs.declared.task.Turn.TheVariants as turn

-- how a turn ends: bytes of the unit remain, the unit begins anew, or it has ended with a verdict
pub data TurnEnd : Type 0 where
  going : TurnEnd
  retry : TurnEnd
  ended : Verdict → TurnEnd

-- what the turn's answer says of its end; a good unit's counts and files are told by a call of their own
abbrev pub TellsTurn : Turn → TurnEnd → Type 0
TellsTurn turn.Going end = end ≡ going
TellsTurn turn.Retry end = end ≡ retry
TellsTurn (turn.Failed cause) end = end ≡ ended (failed cause)
TellsTurn turn.Whole end = (counts : Counts) × (warnings : List ℕ) × (end ≡ ended (good counts warnings))

-- a volume that failed, and want of memory
abbrev pub turn_fault_of : StageFault → TurnFault
turn_fault_of stage_fault.Failed = turn_fault.Failed
turn_fault_of stage_fault.Memory = turn_fault.Memory

-- ---- how it ends, by what the pull gave

-- how many bytes the turn asks for: a piece, or what is left
abbrev pub asked_for : ℕ → TaskValue → ℕ
asked_for piece t = min piece (unit_length t.unit - t.machine.seen)

-- the pull of the turn
abbrev pub turn_pull : ℕ → TaskValue → Pull
turn_pull piece t = record { part = t.unit.part; at = t.unit.lo + t.machine.seen; len = asked_for piece t }

-- the unit has ended with these bytes: a line stops it, or all of it was pulled
abbrev pub ends_with : Plan → WorkUnit → List ℕ → Bool
ends_with plan u bytes =
    is_some (stop_of plan (unit_fold plan u.lo bytes)) || not (nat_lt (length bytes) (unit_length u))

-- the pull was answered with all that was asked for; with what was fed before it makes these bytes
abbrev pub end_of_bytes : Plan → WorkUnit → List ℕ → TurnEnd
end_of_bytes plan u bytes = if ends_with plan u bytes then ended (verdict_of plan u bytes) else going

-- the pull was answered with these bytes, behind those that were fed; fewer than were asked for are gone
abbrev pub end_of_answer : Plan → WorkUnit → List ℕ → ℕ → List ℕ → TurnEnd
end_of_answer plan u fed asked given =
    if nat_lt (length given) asked then ended (failed Gone) else end_of_bytes plan u (fed ++ given)

-- the pull failed: the unit begins anew, or has failed too often
abbrev pub end_of_failure : ℕ → ℕ → TurnEnd
end_of_failure retries failures = if nat_lt failures retries then retry else ended (failed Fault)

-- ---- a turn that was answered

-- the devices of a task, as a turn finds them or leaves them
pub record Devices : Type 0 where
  pub supply : Option Supply
  pub source_faults : ℕ
  pub plan_faults : ℕ
  pub disk : Option Disk
  pub volume_faults : ℕ

-- what all turns share: the job's name, its plan, the most bytes of a pull, and how often a unit may be tried anew
pub record TurnRulesValue : Type 0 where
  pub job : List ℕ
  pub plan : Plan
  pub piece : ℕ
  pub max_retries : ℕ

-- behind these bytes of the unit the task was fed these too, and is the same but for that: where its files held what
-- the first have made, they hold what both have made
pub record IsFed (rules : TurnRulesValue) (t u : TaskValue) (fed given : List ℕ) (old new : Option Disk)
    : Type 0 where
  pub unit : u.unit ≡ t.unit
  pub index : u.index ≡ t.index
  pub failures : u.failures ≡ t.failures
  pub holds : Both (λ d e. HoldsSent rules.plan t fed d.files → HoldsSent rules.plan u (fed ++ given) e.files) old new

-- where the unit hasn't failed, the task stands behind all these bytes, or the unit has no others
abbrev pub TaskGoesOn : TurnRulesValue → TaskValue → TaskValue → List ℕ → List ℕ → Turn → Option Disk → Option Disk
    → Type 0
TaskGoesOn rules t u fed given turn.Going old new =
    StandsBehind rules.job rules.plan u (fed ++ given) × IsFed rules t u fed given old new
TaskGoesOn rules t u fed given turn.Retry old new = Unit {0}
TaskGoesOn rules t u fed given (turn.Failed cause) old new = Unit {0}
TaskGoesOn rules t u fed given turn.Whole old new =
    IsWhole rules.job rules.plan u (fed ++ given) × IsFed rules t u fed given old new

-- the volume was called for one append to each target that has bytes in some buffers, and for nothing else
pub record OneAppendEach (plan : Plan) (t : TaskValue) (old new : Option Disk) : Type 0 where
  pub buffers : Buffers
  pub slots : AreSlots buffers
  pub calls : new ≡ option_map (after_stagings (appends_of plan t.unit (filled_targets buffers)) t.staged) old

-- behind these bytes it was fed these too, whether or not a line stops it: where the attempt's files held what the
-- first have made, they hold what both have made up to a stop
pub record FilesKept (rules : TurnRulesValue) (t u : TaskValue) (fed given : List ℕ) (old new : Option Disk)
    : Type 0 where
  pub unit : u.unit ≡ t.unit
  pub folder : u.staged.folder ≡ t.staged.folder
  pub holds : Both (λ d e. HoldsSent rules.plan t fed d.files → HoldsToStop rules.plan u (fed ++ given) e.files) old new
  pub appends : OneAppendEach rules.plan t old new

-- these bytes were taken: they tell how the turn ends, and where the task stands
pub record BytesTaken (rules : TurnRulesValue) (t u : TaskValue) (fed given : List ℕ) (r : Turn)
    (old new : Option Disk) : Type 0 where
  pub ends : TellsTurn r (end_of_bytes rules.plan t.unit (fed ++ given))
  pub goes_on : TaskGoesOn rules t u fed given r old new
  pub files : FilesKept rules t u fed given old new

-- the pull was answered with these bytes, behind those that were fed; where some are gone, none of them is fed
pub record AnswerTaken (rules : TurnRulesValue) (t u : TaskValue) (given : List ℕ) (r : Turn) (old new : Devices)
    : Type 0 where
  pub few : length given ≤ asked_for rules.piece t
  pub told : IfSome old.supply
      (λ s. given ≡ bytes_from s.held t.unit.part (t.unit.lo + t.machine.seen) (asked_for rules.piece t))
  pub pulled : new.supply ≡ option_map (with_pull (turn_pull rules.piece t)) old.supply
  pub no_fault : new.source_faults ≡ old.source_faults
  pub ends : (fed : List ℕ) → StandsBehind rules.job rules.plan t fed
      → TellsTurn r (end_of_answer rules.plan t.unit fed (asked_for rules.piece t) given)
  pub goes_on : (fed : List ℕ) → StandsBehind rules.job rules.plan t fed
      → TaskGoesOn rules t u fed given r old.disk new.disk
  pub files : asked_for rules.piece t ≤ length given → (fed : List ℕ) → StandsBehind rules.job rules.plan t fed
      → FilesKept rules t u fed given old.disk new.disk
  pub gone : length given < asked_for rules.piece t → (u ≡ t) × (new.disk ≡ old.disk)

-- the pull failed
pub record FailureTaken (rules : TurnRulesValue) (t u : TaskValue) (r : Turn) (old new : Devices) : Type 0 where
  pub rose : Rose old.source_faults new.source_faults
  pub unpulled : new.supply ≡ old.supply
  pub unchanged : new.disk ≡ old.disk
  pub ends : TellsTurn r (end_of_failure rules.max_retries t.failures)
  pub anew : r ≡ turn.Retry → HasBegun rules.job rules.plan t.unit t.index (t.failures + 1) u

-- what the next call may go on from
abbrev pub StandsAfter : TurnRulesValue → TaskValue → Turn → Type 0
StandsAfter rules u turn.Going = (fed : List ℕ) × StandsBehind rules.job rules.plan u fed
StandsAfter rules u turn.Retry = (fed : List ℕ) × StandsBehind rules.job rules.plan u fed
StandsAfter rules u (turn.Failed cause) = Unit {0}
StandsAfter rules u turn.Whole = (fed : List ℕ) × IsWhole rules.job rules.plan u fed

-- a turn with an answer
abbrev pub TurnTaken : TurnRulesValue → TaskValue → TaskValue → Turn → Devices → Devices → Type 0
TurnTaken rules t u r old new =
    FailureTaken rules t u r old new ⊎ ((given : List ℕ) × AnswerTaken rules t u given r old new)

-- a turn that was stopped: by the volume behind an answered pull, or for want of memory
abbrev pub TurnStopped : TurnRulesValue → TaskValue → TurnFault → Devices → Devices → Type 0
TurnStopped rules t turn_fault.Failed old new =
    Rose old.volume_faults new.volume_faults × (new.source_faults ≡ old.source_faults)
    × (new.supply ≡ option_map (with_pull (turn_pull rules.piece t)) old.supply)
TurnStopped rules t turn_fault.Memory old new =
    (new.supply ≡ old.supply) ⊎ (new.supply ≡ option_map (with_pull (turn_pull rules.piece t)) old.supply)

abbrev pub TurnIs : TurnRulesValue → TaskValue → TaskValue → Result Turn TurnFault → Devices → Devices → Type 0
TurnIs rules t u (Ok r) old new = TurnTaken rules t u r old new
TurnIs rules t u (Err fault) old new = TurnStopped rules t fault old new

-- a turn, whatever it answers
pub record TurnDone (rules : TurnRulesValue) (t u : TaskValue) (result : Result Turn TurnFault) (old new : Devices)
    : Type 0 where
  pub answered : TurnIs rules t u result old new
  pub below : Along (OnlyBelow t.staged.folder) old.disk new.disk
  pub source : old.source_faults ≤ new.source_faults
  pub planned : new.plan_faults ≡ old.plan_faults
  pub volume : old.volume_faults ≤ new.volume_faults
