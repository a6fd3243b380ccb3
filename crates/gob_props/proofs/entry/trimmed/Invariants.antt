use Rattle.std.proofs.Common.{◌≡◌, length}
use Rattle.gob_props.specs.Properties.{without_white_space}
use Rattle.gob_props.proofs.entry.trimmed.Given as goal

abbrev pub invariant-loop-left : goal.invariant-loop-left
invariant-loop-left l = without_white_space l.text ≡ without_white_space l.left

abbrev pub decreases-loop-left : goal.decreases-loop-left
decreases-loop-left l = length l.left
