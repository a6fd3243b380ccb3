-- What the end of a good unit's task tells: its verdict and its files.
use Rattle.std.specs.Prelude.{◌≡◌, ◌≢◌, ℕ, true, List, [], ◌++◌, map}
use Rattle.std.specs.declared.option.Option.{Option}
use Rattle.std.specs.declared.option.Option.TheVariants.{Some}
use Rattle.std.specs.List.{Contains}
use Rattle.gob_bytes.specs.Paths.{under}
use Rattle.gob_bytes.specs.Tables.{IsInByteOrder}
use Rattle.gob_device.specs.Disk.{Both, Disk, Files, clean}
use Rattle.gob_meaning.specs.Fold.{Delivery, sent_to}
use Rattle.gob_meaning.specs.Items.{Target}
use Rattle.gob_meaning.specs.Results.{verdict_of}
use Rattle.gob_plan.specs.declared.plan.Plan.{Plan}
use Rattle.gob_plan.specs.declared.units.StagedFile.{StagedFile}
use Rattle.gob_plan.specs.declared.units.Unit.{Unit as WorkUnit}
use Rattle.gob_plan.specs.declared.units.UnitResult.{UnitResult}
use Rattle.gob_plan.specs.declared.units.UnitResult.TheVariants as unit_result
use Rattle.gob_recovery.specs.Sequence.{is_file_name}
use Rattle.gob_state.specs.Committed.{verdict_in}
use Rattle.gob_task.specs.Task.{HoldsSent, TaskValue, name_in, unit_sends}
use Rattle.gob_task.specs.Turn.{TurnRulesValue}

-- a file of a good unit: where it is staged, where it is to be published, and what it holds
pub record IsStagedFor (job : List ℕ) (plan : Plan) (u : WorkUnit) (folder : List ℕ) (given : List Delivery)
    (f : StagedFile) : Type 0 where
  pub target : Target
  pub some : sent_to target given ≢ []
  pub staged : f.from ≡ folder ++ name_in plan u target
  pub published : f.to ≡ under job (name_in plan u target)
  pub spelled : (is_file_name f.from ≡ true) × (is_file_name f.to ≡ true)

-- the files are those of the targets that these deliveries send to, in byte order of names
pub record AreStagedFor (job : List ℕ) (plan : Plan) (u : WorkUnit) (folder : List ℕ) (given : List Delivery)
    (files : List StagedFile) : Type 0 where
  pub order : IsInByteOrder (map (λ f. f.to) files)
  pub each : (f : StagedFile) → Contains files f → IsStagedFor job plan u folder given f
  pub all : (t : Target) → sent_to t given ≢ []
      → (f : StagedFile) × Contains files f × (f.to ≡ under job (name_in plan u t))

-- each of them is clean and holds what was sent to its target
abbrev pub HoldCleanly : Plan → WorkUnit → List ℕ → List Delivery → List StagedFile → Files → Type 0
HoldCleanly plan u job given files m = (f : StagedFile) (t : Target) → Contains files f → sent_to t given ≢ []
    → f.to ≡ under job (name_in plan u t) → m f.from ≡ Some (clean (sent_to t given))

-- what was staged of a good unit
abbrev pub staged_in : UnitResult → List StagedFile
staged_in (unit_result.Good counts warnings staged) = staged
staged_in (unit_result.Failed cause) = []

-- the unit has ended with these bytes: its verdict is theirs, and its files are those of all that they make; where the
-- volume tells, they hold it
pub record IsFinished (rules : TurnRulesValue) (t : TaskValue) (bytes : List ℕ) (r : UnitResult)
    (old new : Option Disk) : Type 0 where
  pub verdict : verdict_in r ≡ verdict_of rules.plan t.unit bytes
  pub files : AreStagedFor rules.job rules.plan t.unit t.staged.folder (unit_sends rules.plan t.unit bytes)
      (staged_in r)
  pub hold : Both (λ d e. HoldsSent rules.plan t bytes d.files
      → HoldCleanly rules.plan t.unit rules.job (unit_sends rules.plan t.unit bytes) (staged_in r) e.files) old new
