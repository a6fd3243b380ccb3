use Rattle.std.proofs.Common.{◌≡◌, ◌++◌, drop}
use Rattle.std.specs.List.{enumerate_from, flat_map}
use Rattle.gob_report.specs.Counted.{range_line}
use Rattle.gob_report.proofs.ranges.push_counted.Given as goal

abbrev pub invariant-loop-i : goal.invariant-loop-i
invariant-loop-i l =
    l.into.items ++ flat_map range_line (enumerate_from l.i (drop l.i l.fn.counts))
    ≡ l.fn.into.items ++ flat_map range_line (enumerate_from 0 l.fn.counts)
