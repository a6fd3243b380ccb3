-- Turns and the end of a task.
use Rattle.std.specs.Prelude.{Bool, true, false}
use Rattle.gob_task.specs.declared.task.Turn.{Turn}
use Rattle.gob_task.specs.declared.task.Turn.TheVariants as turn

-- the task has no turn behind this one
abbrev pub is_last_turn : Turn → Bool
is_last_turn turn.Going = false
is_last_turn turn.Retry = false
is_last_turn (turn.Failed cause) = true
is_last_turn turn.Whole = true
