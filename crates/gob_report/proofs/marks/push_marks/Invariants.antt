use Rattle.std.proofs.Common.{◌≡◌, ◌++◌, drop}
use Rattle.std.specs.List.{flat_map}
use Rattle.gob_texts.specs.Report.{mark_line}
use Rattle.gob_report.proofs.marks.push_marks.Given as goal

abbrev pub invariant-loop-i : goal.invariant-loop-i
invariant-loop-i l = l.into.items ++ flat_map mark_line (drop l.i l.fn.table) ≡ l.fn.into.items
    ++ flat_map mark_line l.fn.table
