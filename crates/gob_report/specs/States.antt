-- What is told of a state between the job's name and the status.
use Rattle.std.specs.Prelude.{ℕ, List, ◌++◌}
use Rattle.std.specs.declared.option.Option.{Option}
use Rattle.std.specs.declared.option.Option.TheVariants.{None, Some}
use Rattle.gob_ledger.specs.State.{State, empty_state}
use Rattle.gob_texts.specs.Commands.{state_lines}
use Rattle.gob_texts.specs.Report.{total_lines}

-- where there is no state, all numbers are 0
abbrev pub body_of : Option State → List ℕ
body_of None = total_lines (empty_state 0)
body_of (Some s) = state_lines s ++ total_lines s
