use Rattle.std.proofs.Common.{◌≡◌, ◌++◌, drop}
use Rattle.gob_texts.specs.Report.{warning_lines}
use Rattle.gob_report.proofs.units.push_warnings.Given as goal

abbrev pub invariant-loop-i : goal.invariant-loop-i
invariant-loop-i l = l.into.items ++ warning_lines (drop l.i l.fn.warnings) ≡ l.fn.into.items
    ++ warning_lines l.fn.warnings
