use Rattle.std.specs.Str.{chars}
use Rattle.std.proofs.Common.{◌≡◌, ◌+◌, ◌≤◌, length, None}
use Rattle.gob_props.specs.Properties.{with_all, all_entries, logical_from, read_text}
use Rattle.gob_props.specs.Steps.{lines_left, most_lines}
use Rattle.gob_props.proofs.read.read_text.Given as goal

abbrev pub invariant-loop-left : goal.invariant-loop-left
invariant-loop-left l = record {
  meaning : with_all l.props (all_entries (logical_from None l.number (lines_left l.left))) ≡
      read_text (chars l.fn.text);
  few : l.number + most_lines l.left ≤ length l.fn.text + 2;
}

abbrev pub decreases-loop-left : goal.decreases-loop-left
decreases-loop-left l = most_lines l.left
