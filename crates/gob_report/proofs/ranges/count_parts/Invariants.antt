use Rattle.std.proofs.Common.{◌≡◌, drop}
use Rattle.gob_report.specs.Counted.{counted_from, made_in}
use Rattle.gob_report.proofs.ranges.count_parts.Given as goal

abbrev pub invariant-loop-i : goal.invariant-loop-i
invariant-loop-i l = counted_from 0 l.counts (made_in (drop l.i l.fn.table)) ≡ counted_from 0 l.fn.counts
    (made_in l.fn.table)
