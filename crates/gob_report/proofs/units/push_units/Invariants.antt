use Rattle.std.proofs.Common.{◌≡◌, ◌++◌, drop}
use Rattle.gob_texts.specs.Report.{units_lines}
use Rattle.gob_state.specs.Committed.{judged_by}
use Rattle.gob_report.proofs.units.push_units.Given as goal

abbrev pub invariant-loop-i : goal.invariant-loop-i
invariant-loop-i l =
    l.into.items ++ units_lines (judged_by (drop l.i l.fn.units) (drop l.i l.fn.results)) (drop l.i l.fn.committed)
    ≡ l.fn.into.items ++ units_lines (judged_by l.fn.units l.fn.results) l.fn.committed
