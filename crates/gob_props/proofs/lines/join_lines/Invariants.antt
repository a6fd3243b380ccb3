use Rattle.std.proofs.Common.{◌≡◌, ℕ, ◌+◌, ◌≤◌, ◌<◌, []}
use Rattle.std.specs.Str.{chars}
use Rattle.gob_props.specs.Properties.{goes_on, with_line}
use Rattle.gob_props.specs.Steps.{later_lines, lines_left, most_lines}
use Rattle.gob_props.proofs.lines.join_lines.Given as goal

abbrev pub invariant-loop-more : goal.invariant-loop-more
invariant-loop-more l =
    ((n : ℕ) → later_lines (goes_on (chars l.line)) (with_line (record { number = n; text = [] }) (chars l.line))
    (n + 1) (lines_left l.fn.after) ≡ later_lines l.more (record { number = n; text = l.text.items }) (n + l.count)
    (lines_left l.left))
    × (l.count + most_lines l.left ≤ 1 + most_lines l.fn.after)
    × (0 < l.count)

abbrev pub decreases-loop-more : goal.decreases-loop-more
decreases-loop-more l = most_lines l.left
