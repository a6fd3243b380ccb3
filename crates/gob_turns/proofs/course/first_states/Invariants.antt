use Rattle.std.proofs.Common.{◌≡◌, map, take}
use Rattle.gob_turns.specs.Course.{first_state}
use Rattle.gob_turns.proofs.course.first_states.Given as goal

abbrev pub invariant-loop-unit : goal.invariant-loop-unit
invariant-loop-unit l = l.states.items ≡ map first_state (take l.unit-index l.units)
