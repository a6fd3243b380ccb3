-- What is loaded, and what a commit changes, as the code has them.
use Rattle.std.specs.Prelude.{◌≡◌, ℕ, ◌≤◌}
use Rattle.std.specs.declared.option.Option.{Option}
use Rattle.std.specs.declared.option.Option.TheVariants.{None, Some}
use Rattle.gob_ledger.specs.State.{State}
use Rattle.gob_ledger.specs.Delta.{Change}
use Rattle.gob_segments.specs.declared.change.StateChange.{StateChange}

-- no more changes than commits, and none where nothing is kept
abbrev pub CountsChanges : Option State → ℕ → Type 0
CountsChanges None deltas = deltas ≡ 0
CountsChanges (Some s) deltas = deltas ≤ s.run

-- the code's change
abbrev pub change_value : StateChange → Change
change_value c = record { target = c.target; text = c.bytes; removes = c.removes; changes = c.deltas }
