use Rattle.std.proofs.Common.{◌≡◌, ◌++◌, drop}
use Rattle.std.specs.List.{flat_map}
use Rattle.gob_texts.specs.Report.{too_long_line}
use Rattle.gob_report.proofs.reports.push_too_long.Given as goal

abbrev pub invariant-loop-i : goal.invariant-loop-i
invariant-loop-i l = l.into.items ++ flat_map too_long_line (drop l.i l.fn.parts) ≡ l.fn.into.items
    ++ flat_map too_long_line l.fn.parts
