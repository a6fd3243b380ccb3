-- The fault of a turn is that of the run.
use Rattle.gob_task.specs.declared.fault.TurnFault.{TurnFault}
use Rattle.gob_task.specs.declared.fault.TurnFault.TheVariants as turn_fault
use Rattle.gob_turns.specs.declared.fault.TurnsFault.{TurnsFault}
use Rattle.gob_turns.specs.declared.fault.TurnsFault.TheVariants as turns_fault

abbrev pub turns_fault_of : TurnFault → TurnsFault
turns_fault_of turn_fault.Failed = turns_fault.Failed
turns_fault_of turn_fault.Memory = turns_fault.Memory
