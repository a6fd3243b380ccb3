use Rattle.std.proofs.Common.{◌≡◌, ◌++◌}
use Rattle.gob_props.specs.Properties.{goes_on}
use Rattle.gob_props.proofs.lines.push_part.Given as goal

-- the characters so far were added, and their last backslashes counted
abbrev pub invariant-loop-c : goal.invariant-loop-c
invariant-loop-c l = (l.text.items ≡ l.fn.text.items ++ l.yielded) × (l.odd ≡ goes_on l.yielded)
