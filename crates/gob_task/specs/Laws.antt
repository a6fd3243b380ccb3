-- The laws of tasks, by which a run of many knows what is staged of each good unit.
use Rattle.std.specs.Prelude.{◌≡◌, ℕ, ◌+◌, ◌≤◌, true, List, [], ◌∷◌, ◌++◌, length}
use Rattle.std.specs.declared.option.Option.TheVariants.{Some}
use Rattle.std.specs.List.{Contains}
use Rattle.gob_device.specs.Disk.{Files, clean}
use Rattle.gob_device.specs.Supply.{Held, bytes_from}
use Rattle.gob_ledger.specs.Expected.{IsPublished, bytes_of_range}
use Rattle.gob_ledger.specs.Units.{span_of}
use Rattle.gob_meaning.specs.Results.{Verdict, verdict_of}
use Rattle.gob_plan.specs.declared.plan.Plan.{Plan}
use Rattle.gob_plan.specs.declared.units.StagedFile.{StagedFile}
use Rattle.gob_plan.specs.declared.units.Unit.{Unit as WorkUnit}
use Rattle.gob_stage.specs.Attempt.{AreThere}
use Rattle.gob_stage.specs.Laws.{SameBelow}
use Rattle.gob_task.specs.Finish.{AreStagedFor, HoldCleanly}
use Rattle.gob_task.specs.Task.{HoldsSent, TaskValue, unit_length, unit_sends}
use Rattle.gob_task.specs.Turn.{ends_with}

-- these bytes are the first of a unit
abbrev pub AreFirst : Held → WorkUnit → List ℕ → Type 0
AreFirst held u fed = fed ≡ bytes_from held u.part u.lo (length fed)

-- what was pulled behind the first bytes of a unit makes more of them
abbrev pub PulledAreFirst : Type 0
PulledAreFirst = (held : Held) (u : WorkUnit) (fed given : List ℕ) → AreFirst held u fed
    → given ≡ bytes_from held u.part (u.lo + length fed) (length given) → AreFirst held u (fed ++ given)

-- first bytes that end a unit have the verdict of all its bytes
abbrev pub FirstBytesDecide : Type 0
FirstBytesDecide = (plan : Plan) (held : Held) (u : WorkUnit) (fed : List ℕ) → u.listed ≡ true → AreFirst held u fed
    → length fed ≤ unit_length u → ends_with plan u fed ≡ true
    → verdict_of plan u fed ≡ verdict_of plan u (bytes_of_range held u.part (span_of u))

-- the files of a unit are exactly what it has to publish, and each is clean
pub record ArePublished (job : List ℕ) (plan : Plan) (held : Held) (u : WorkUnit) (v : Verdict)
    (files : List StagedFile) (m : Files) : Type 0 where
  pub made : (f : StagedFile) → Contains files f
      → (content : List ℕ) × (m f.from ≡ Some (clean content)) × IsPublished job plan held ((u, v) ∷ []) f.to content
  pub all : (name content : List ℕ) → IsPublished job plan held ((u, v) ∷ []) name content
      → (f : StagedFile) × Contains files f × (f.to ≡ name) × (m f.from ≡ Some (clean content))

-- the files of a good unit, of which all bytes were fed, are so
abbrev pub StagedArePublished : Type 0
StagedArePublished = (job : List ℕ) (plan : Plan) (held : Held) (u : WorkUnit) (v : Verdict) (folder bytes : List ℕ)
    (files : List StagedFile) (m : Files) → bytes ≡ bytes_of_range held u.part (span_of u)
    → AreStagedFor job plan u folder (unit_sends plan u bytes) files
    → HoldCleanly plan u job (unit_sends plan u bytes) files m → ArePublished job plan held u v files m

-- what is below an attempt's folder is the attempt's alone: a map that differs elsewhere has and holds as much
pub record StaysBelow (plan : Plan) (t : TaskValue) (m n : Files) : Type 0 where
  pub there : AreThere t.staged m → AreThere t.staged n
  pub sent : (fed : List ℕ) → HoldsSent plan t fed m → HoldsSent plan t fed n
  pub cleanly : (job bytes : List ℕ) (files : List StagedFile)
      → AreStagedFor job plan t.unit t.staged.folder (unit_sends plan t.unit bytes) files
      → HoldCleanly plan t.unit job (unit_sends plan t.unit bytes) files m
      → HoldCleanly plan t.unit job (unit_sends plan t.unit bytes) files n

abbrev pub TasksKeepTheirOwn : Type 0
TasksKeepTheirOwn = (plan : Plan) (t : TaskValue) (m n : Files) → SameBelow t.staged.folder m n → StaysBelow plan t m n
