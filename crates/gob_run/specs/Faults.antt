-- What faults of the layers below are in a run.
use Rattle.std.specs.Prelude.{ℕ, List}
use Rattle.std.specs.declared.option.Option.{Option}
use Rattle.gob_device.specs.Causes.{Rose}
use Rattle.gob_device.specs.Disk.{Both, Disk, Files, last_map}
use Rattle.gob_recovery.specs.Settle.{Settles}
use Rattle.gob_seq.specs.declared.faults.CommitFault.{CommitFault}
use Rattle.gob_seq.specs.declared.faults.CommitFault.TheVariants as commit_fault
use Rattle.gob_seq.specs.declared.faults.SettleFault.{SettleFault}
use Rattle.gob_seq.specs.declared.faults.SettleFault.TheVariants as settle_fault
use Rattle.gob_segments.specs.Loading.{IsKept}
use Rattle.gob_segments.specs.declared.change.Loaded.{Loaded}
use Rattle.gob_segments.specs.declared.faults.LoadFault.{LoadFault}
use Rattle.gob_segments.specs.declared.faults.LoadFault.TheVariants as load_fault
use Rattle.gob_cut.specs.declared.fault.CutFault.{CutFault}
use Rattle.gob_cut.specs.declared.fault.CutFault.TheVariants as cut_fault
use Rattle.gob_turns.specs.declared.fault.TurnsFault.{TurnsFault}
use Rattle.gob_turns.specs.declared.fault.TurnsFault.TheVariants as turns_fault
use Rattle.gob_run.specs.Entry.{LeftBroken}
use Rattle.gob_run.specs.declared.fault.RunFault.{RunFault}
use Rattle.gob_run.specs.declared.fault.RunFault.TheVariants.{Damaged, Shrunk, Full, SourceFault, VolumeFault, Memory}

abbrev pub run_of_settle : SettleFault → RunFault
run_of_settle settle_fault.Failed = VolumeFault
run_of_settle settle_fault.Memory = Memory
run_of_settle (settle_fault.Damaged name) = Damaged name

abbrev pub run_of_load : LoadFault → RunFault
run_of_load load_fault.Failed = VolumeFault
run_of_load load_fault.Memory = Memory
run_of_load (load_fault.Damaged name) = Damaged name

abbrev pub run_of_cut : CutFault → RunFault
run_of_cut (cut_fault.Shrunk part next size) = Shrunk part next size
run_of_cut cut_fault.Failed = SourceFault
run_of_cut cut_fault.Memory = Memory

abbrev pub run_of_turns : TurnsFault → RunFault
run_of_turns turns_fault.Failed = VolumeFault
run_of_turns turns_fault.Memory = Memory

abbrev pub run_of_commit : CommitFault → RunFault
run_of_commit commit_fault.Failed = VolumeFault
run_of_commit commit_fault.Memory = Memory

-- ---- how a run begins

-- the files are settled, and what they keep is loaded
abbrev pub Finds : List ℕ → Loaded → Files → List Files → Type 0
Finds job l m added = Settles job m (last_map m added) × IsKept job (last_map m added) l

-- why nothing was loaded, and what that leaves: damage is told where there is some, and the volume's count rose where
-- it failed
abbrev pub BeginsNot : List ℕ → Option Disk → Option Disk → ℕ → ℕ → RunFault → Type 0
BeginsNot job old new before now (Damaged name) = Both (LeftBroken job name) old new
BeginsNot job old new before now (Shrunk part next size) = ⊥
BeginsNot job old new before now (Full ranges units) = ⊥
BeginsNot job old new before now SourceFault = ⊥
BeginsNot job old new before now VolumeFault = Rose before now
BeginsNot job old new before now Memory = Unit {0}
