-- What turns are given: the rules, the units, and a source that tells.
use Rattle.std.specs.Prelude.{◌≡◌, ◌<◌, ◌≤◌, ◌^◌, true, List, length}
use Rattle.std.specs.List.{Contains, IsDistinct}
use Rattle.gob_device.specs.Supply.{Held, bytes_at}
use Rattle.gob_plan.specs.declared.plan.TurnRules.{TurnRules}
use Rattle.gob_plan.specs.declared.units.Unit.{Unit as WorkUnit}
use Rattle.gob_meaning.specs.Job.{Job}
use Rattle.gob_ledger.specs.Laws.{ProperUnit}
use Rattle.gob_ledger.specs.Units.{same_unit}
use Rattle.gob_recovery.specs.Sequence.{is_file_name}
use Rattle.gob_task.specs.Task.{IsPullable}
use Rattle.gob_task.specs.Turn.{TurnRulesValue}

-- units that can have turns by these rules: each once, and each that is listed can be pulled
pub record MayHaveTurns (rules : TurnRulesValue) (turns : TurnRules) (units : List WorkUnit) : Type 0 where
  pub named : is_file_name rules.job ≡ true
  pub retries : rules.max_retries < 2 ^ 32
  pub branches : length rules.plan.branches ≤ 8
  pub slots : 0 < turns.slots
  pub schedule : 0 < length turns.schedule
  pub some : 0 < rules.piece
  pub piece : turns.piece ≡ rules.piece
  pub few : length units < 2 ^ 32
  pub once : IsDistinct same_unit units
  pub proper : (u : WorkUnit) → Contains units u → ProperUnit u
  pub pullable : (u : WorkUnit) → Contains units u → u.listed ≡ true → IsPullable u

-- a job that is worked on by these rules
pub record IsWorkedBy (rules : TurnRulesValue) (turns : TurnRules) (job : Job) : Type 0 where
  pub name : job.name ≡ rules.job
  pub plan : job.plan ≡ rules.plan
  pub by_turns : job.turns ≡ turns
  pub retries : job.max_retries ≡ rules.max_retries

-- what is held has all bytes of each listed unit
abbrev pub AreHeld : Held → List WorkUnit → Type 0
AreHeld held units = (u : WorkUnit) → Contains units u → u.listed ≡ true → u.hi ≤ length (bytes_at held u.part)
