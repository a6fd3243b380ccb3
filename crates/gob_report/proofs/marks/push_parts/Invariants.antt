use Rattle.std.proofs.Common.{◌≡◌, ◌++◌, drop}
use Rattle.std.specs.List.{flat_map}
use Rattle.gob_texts.specs.Commands.{part_lines}
use Rattle.gob_report.proofs.marks.push_parts.Given as goal

abbrev pub invariant-loop-i : goal.invariant-loop-i
invariant-loop-i l = l.into.items ++ flat_map part_lines (drop l.i l.fn.table) ≡ l.fn.into.items
    ++ flat_map part_lines l.fn.table
