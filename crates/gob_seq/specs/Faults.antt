-- What faults of the layers below are here.
use Rattle.std.specs.Prelude.{◌≡◌, ◌⊎◌, ℕ, List, IfSome}
use Rattle.std.specs.declared.option.Option.{Option}
use Rattle.std.specs.declared.result.Result.{Result}
use Rattle.std.specs.declared.result.Result.TheVariants.{Err}
use Rattle.gob_device.specs.Causes.{Rose}
use Rattle.gob_device.specs.Disk.{Disk}
use Rattle.gob_recovery.specs.Settle.{IsDamaged}
use Rattle.gob_volume.specs.declared.volume.ReadFault.{ReadFault}
use Rattle.gob_volume.specs.declared.volume.ReadFault.TheVariants as read_fault
use Rattle.gob_seq.specs.declared.faults.CommitFault.{CommitFault}
use Rattle.gob_seq.specs.declared.faults.CommitFault.TheVariants as commit_fault
use Rattle.gob_seq.specs.declared.faults.SettleFault.{SettleFault}
use Rattle.gob_seq.specs.declared.faults.SettleFault.TheVariants as settle_fault

abbrev pub commit_of_read : ReadFault → CommitFault
commit_of_read read_fault.Failed = commit_fault.Failed
commit_of_read read_fault.Memory = commit_fault.Memory

abbrev pub settle_of_read : ReadFault → SettleFault
settle_of_read read_fault.Failed = settle_fault.Failed
settle_of_read read_fault.Memory = settle_fault.Memory

abbrev pub settle_of_commit : CommitFault → SettleFault
settle_of_commit commit_fault.Failed = settle_fault.Failed
settle_of_commit commit_fault.Memory = settle_fault.Memory

-- the count rose, where the volume failed
abbrev pub RoseIfFailed : ℕ → ℕ → CommitFault → Type 0
RoseIfFailed before now commit_fault.Failed = Rose before now
RoseIfFailed before now commit_fault.Memory = Unit {0}

abbrev pub RoseIfSettleFailed : ℕ → ℕ → SettleFault → Type 0
RoseIfSettleFailed before now settle_fault.Failed = Rose before now
RoseIfSettleFailed before now settle_fault.Memory = Unit {0}
RoseIfSettleFailed before now (settle_fault.Damaged name) = Unit {0}

-- where damage is told nothing was changed, and this name is the one to blame
abbrev pub Damages : List ℕ → Option Disk → Option Disk → SettleFault → Type 0
Damages job old new settle_fault.Failed = Unit {0}
Damages job old new settle_fault.Memory = Unit {0}
Damages job old new (settle_fault.Damaged name) = IfSome old (λ d. IsDamaged job d.files name) × (new ≡ old)

-- this damage is told, unless the volume failed or no memory was left
abbrev pub DamageDue : {T : Type 0} → List ℕ → Result T SettleFault → Type 0
DamageDue name result =
    (result ≡ Err (settle_fault.Damaged name)) ⊎ (result ≡ Err settle_fault.Failed) ⊎ (result ≡ Err settle_fault.Memory)
