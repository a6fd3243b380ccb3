use Rattle.std.proofs.Common.{◌≡◌, length}
use Rattle.gob_report_tests.proofs.runs.units_of.Given as goal

abbrev pub invariant-loop-i : goal.invariant-loop-i
invariant-loop-i l = length l.units ≡ l.i
