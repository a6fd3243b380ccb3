-- What appends make of an attempt's files.
use Rattle.std.specs.Prelude.{◌≡◌, ◌≢◌, ℕ, true, List, [], ◌∷◌, map, option_map, IfSome}
use Rattle.std.specs.declared.option.Option.{Option}
use Rattle.std.specs.List.{list_all}
use Rattle.gob_bytes.specs.Tables.{Table}
use Rattle.gob_device.specs.Disk.{Both, Disk}
use Rattle.gob_meaning.specs.Fold.{Delivery}
use Rattle.gob_meaning.specs.Laws.{IsPlaced}
use Rattle.gob_plan.specs.declared.plan.Plan.{Plan}
use Rattle.gob_plan.specs.declared.units.Unit.{Unit as WorkUnit}
use Rattle.gob_recovery.specs.Sequence.{is_file_name}
use Rattle.gob_stage.specs.Attempt.{AttemptValue, AreThere, HoldsStaged, after_begin, with_appended}
use Rattle.gob_stage.specs.Stages.{after_staging}
use Rattle.gob_task.specs.Task.{name_in}

-- names of targets, each with the bytes that are appended to its file
abbrev pub Appends : Type 0
Appends = List (List ℕ × List ℕ)

-- the append of what is sent to a target
abbrev pub append_of : Plan → WorkUnit → Delivery → List ℕ × List ℕ
append_of plan u d = (name_in plan u d.target, d.bytes)

abbrev pub appends_of : Plan → WorkUnit → List Delivery → Appends
appends_of plan u given = map (append_of plan u) given

-- each of them has bytes, and a target that a file's name can have
abbrev pub AreFilled : List Delivery → Type 0
AreFilled [] = Unit {0}
AreFilled (d ∷ ds) = IsPlaced d.target × (d.bytes ≢ []) × AreFilled ds

-- their targets are begun
unfoldable pub after_appends : Appends → AttemptValue → AttemptValue
after_appends [] a = a
after_appends (e ∷ es) a = after_appends es (after_begin e.0 a)

-- what they make of a volume, by one append each; the first one to a target makes its file
unfoldable pub after_stagings : Appends → AttemptValue → Disk → Disk
after_stagings [] a d = d
after_stagings (e ∷ es) a d = after_stagings es (after_begin e.0 a) (after_staging a e.0 e.1 d)

-- the contents with each of them at its target's end
unfoldable pub with_appends : Appends → Table (List ℕ) → Table (List ℕ)
with_appends [] contents = contents
with_appends (e ∷ es) contents = with_appends es (with_appended e.0 e.1 contents)

-- where the files held what was appended, they hold these too
abbrev pub HoldsAppends : Appends → AttemptValue → Disk → Disk → Type 0
HoldsAppends es a d e = (contents : Table (List ℕ)) → HoldsStaged a contents d.files
    → HoldsStaged (after_appends es a) (with_appends es contents) e.files

-- these appends were done one after the other
pub record Appended (es : Appends) (a b : AttemptValue) (old new : Option Disk) : Type 0 where
  pub attempt : b ≡ after_appends es a
  pub calls : new ≡ option_map (after_stagings es a) old
  pub spelled : list_all is_file_name (map (λ e. e.0) es) ≡ true
  pub holds : Both (HoldsAppends es a) old new
  pub there : IfSome old (λ d. AreThere a d.files) → IfSome new (λ d. AreThere b d.files)
