-- As what the faults of the layers below are told.
use Rattle.gob_job.specs.declared.faults.JobFault.{JobFault}
use Rattle.gob_job.specs.declared.faults.JobFault.TheVariants as held
use Rattle.gob_seq.specs.declared.faults.SettleFault.{SettleFault}
use Rattle.gob_seq.specs.declared.faults.SettleFault.TheVariants as settle
use Rattle.gob_texts.specs.Refusals as texts
use Rattle.gob_volume.specs.declared.volume.ReadFault.{ReadFault}
use Rattle.gob_volume.specs.declared.volume.ReadFault.TheVariants as read

abbrev pub read_refusal : ReadFault → texts.Refusal
read_refusal read.Failed = texts.volume_fault
read_refusal read.Memory = texts.memory

abbrev pub held_refusal : JobFault → texts.Refusal
held_refusal (held.Missing key) = texts.missing key
held_refusal (held.BadValue key) = texts.bad_value key
held_refusal (held.BadPolicyCount key) = texts.bad_policy_count key
held_refusal (held.NoColumn key column) = texts.no_column key column
held_refusal (held.BadKind key column) = texts.bad_kind key column
held_refusal (held.Interpolation key) = texts.interpolation key
held_refusal held.Memory = texts.memory

abbrev pub settle_refusal : SettleFault → texts.Refusal
settle_refusal settle.Failed = texts.volume_fault
settle_refusal settle.Memory = texts.memory
settle_refusal (settle.Damaged name) = texts.damaged name
