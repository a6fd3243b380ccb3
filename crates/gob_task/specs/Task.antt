-- A task: one attempt after the other at one unit, and where it stands.
use Rattle.std.specs.Prelude.{◌≡◌, ◌≢◌, ℕ, ◌-◌, ◌<◌, ◌^◌, true, List, [], length, option_map}
use Rattle.std.specs.declared.option.Option.{Option}
use Rattle.std.specs.declared.option.Option.TheVariants.{None, Some}
use Rattle.std.specs.List.{list_all, slice_get}
use Rattle.std.specs.Option.{unwrap_or}
use Rattle.gob_bytes.specs.Paths.{attempt_folder}
use Rattle.gob_bytes.specs.Tables.{IsInByteOrder, Table, at_name, names_of}
use Rattle.gob_device.specs.Disk.{Files}
use Rattle.gob_meaning.specs.Fold.{Delivery, deliveries_of, sent_to, unit_fold}
use Rattle.gob_meaning.specs.Items.{Target}
use Rattle.gob_meaning.specs.Names.{target_name}
use Rattle.gob_meaning.specs.Results.{verdict_of}
use Rattle.gob_ledger.specs.Next.{is_good}
use Rattle.gob_plan.specs.declared.plan.Plan.{Plan}
use Rattle.gob_plan.specs.declared.units.Unit.{Unit as WorkUnit}
use Rattle.gob_recovery.specs.Sequence.{is_file_name}
use Rattle.gob_pipeline.specs.Machine.{MachineValue, WasFed, sent_before_stop}
use Rattle.gob_pipeline.specs.Made.{target_in}
use Rattle.gob_stage.specs.Attempt.{AttemptValue, HoldsStaged, new_attempt}

-- for each slot the places, each with the name of its target
abbrev pub Names : Type 0
Names = List (Table (List ℕ))

-- the name that stands there in a slot's table
abbrev pub name_at : Names → ℕ → ℕ → Option (List ℕ)
name_at names slot at = option_map (λ e. e.1) (slice_get (unwrap_or (slice_get names slot) []) at)

-- the unit and its number in the run, how many attempts at it have failed, what the machine of this attempt knows, the
-- names of targets that it has spelled, and the files that it has begun
pub record TaskValue : Type 0 where
  pub unit : WorkUnit
  pub index : ℕ
  pub failures : ℕ
  pub machine : MachineValue
  pub names : Names
  pub staged : AttemptValue

-- how many bytes a unit has
abbrev pub unit_length : WorkUnit → ℕ
unit_length u = u.hi - u.lo

-- what a unit has to be so that it can be pulled
pub record IsPullable (u : WorkUnit) : Type 0 where
  pub listed : u.listed ≡ true
  pub named : u.part ≢ []
  pub bytes : u.lo < u.hi
  pub end : u.hi < 2 ^ 64

-- what bytes of a unit send
abbrev pub unit_sends : Plan → WorkUnit → List ℕ → List Delivery
unit_sends plan u bytes = deliveries_of (unit_fold plan u.lo bytes)

-- the name of a target of a unit, without the job's folder
abbrev pub name_in : Plan → WorkUnit → Target → List ℕ
name_in plan u t = target_name plan u.part u.lo u.hi t

-- a slot's places in byte order, each with the name of its target, which a file can have
pub record IsSpelled (plan : Plan) (u : WorkUnit) (slot : ℕ) (table : Table (List ℕ)) : Type 0 where
  pub rising : IsInByteOrder (names_of table)
  pub names : (place name : List ℕ) → at_name table place ≡ Some name → name ≡ name_in plan u (target_in slot place)
  pub files : (place name : List ℕ) → at_name table place ≡ Some name → is_file_name name ≡ true

-- every slot has its own
pub record AreSpelled (plan : Plan) (u : WorkUnit) (names : Names) : Type 0 where
  pub each : (slot : ℕ) (table : Table (List ℕ)) → slice_get names slot ≡ Some table → IsSpelled plan u slot table

-- the contents are exactly what these deliveries send, each under the name of its target
pub record AreSent (plan : Plan) (u : WorkUnit) (given : List Delivery) (contents : Table (List ℕ)) : Type 0 where
  pub all : (t : Target) → sent_to t given ≢ [] → at_name contents (name_in plan u t) ≡ Some (sent_to t given)
  pub only : (name bytes : List ℕ) → at_name contents name ≡ Some bytes
      → (t : Target) × (name ≡ name_in plan u t) × (bytes ≡ sent_to t given) × (bytes ≢ [])

-- exactly the targets that these deliveries send to are begun, each under a name that can be published
pub record AreBegun (plan : Plan) (u : WorkUnit) (given : List Delivery) (begun : List (List ℕ)) : Type 0 where
  pub contents : Table (List ℕ)
  pub sent : AreSent plan u given contents
  pub names : names_of contents ≡ begun
  pub spelled : list_all is_file_name begun ≡ true

-- in this attempt, exactly these bytes of the unit were fed, and none of their lines stops it
pub record WasFedIn (job : List ℕ) (plan : Plan) (t : TaskValue) (fed : List ℕ) : Type 0 where
  pub pullable : IsPullable t.unit
  pub small : (t.index < 2 ^ 32) × (t.failures < 2 ^ 32)
  pub lo : t.machine.lo ≡ t.unit.lo
  pub known : WasFed plan t.machine fed
  pub goes_on : t.machine.stop ≡ None
  pub branches : length t.machine.counts.branches ≡ length plan.branches
  pub of_job : t.staged.job ≡ job
  pub folder : t.staged.folder ≡ attempt_folder job t.index t.failures
  pub begun : AreBegun plan t.unit (unit_sends plan t.unit fed) t.staged.begun

-- the same, bytes of the unit are left, and the names that were spelled are those of its targets
pub record StandsBehind (job : List ℕ) (plan : Plan) (t : TaskValue) (fed : List ℕ) : Type 0 where
  pub was : WasFedIn job plan t fed
  pub left : length fed < unit_length t.unit
  pub names : AreSpelled plan t.unit t.names

-- all bytes of the unit were fed, and it is good
pub record IsWhole (job : List ℕ) (plan : Plan) (t : TaskValue) (fed : List ℕ) : Type 0 where
  pub was : WasFedIn job plan t fed
  pub whole : length fed ≡ unit_length t.unit
  pub good : is_good (verdict_of plan t.unit fed) ≡ true

-- the files of the attempt hold exactly what these bytes have made
pub record HoldsSent (plan : Plan) (t : TaskValue) (fed : List ℕ) (m : Files) : Type 0 where
  pub contents : Table (List ℕ)
  pub sent : AreSent plan t.unit (unit_sends plan t.unit fed) contents
  pub holds : HoldsStaged t.staged contents m

-- they hold exactly what these bytes have made up to the line that stops them; all, where none does
pub record HoldsToStop (plan : Plan) (t : TaskValue) (fed : List ℕ) (m : Files) : Type 0 where
  pub contents : Table (List ℕ)
  pub sent : AreSent plan t.unit (sent_before_stop plan t.unit.lo fed) contents
  pub holds : HoldsStaged t.staged contents m

-- an attempt with this number at a unit with that one has just begun: nothing was fed, and nothing is staged
pub record HasBegun (job : List ℕ) (plan : Plan) (u : WorkUnit) (number attempt : ℕ) (t : TaskValue) : Type 0 where
  pub unit : t.unit ≡ u
  pub index : t.index ≡ number
  pub failures : t.failures ≡ attempt
  pub stands : StandsBehind job plan t []
  pub staged : t.staged ≡ new_attempt job number attempt
