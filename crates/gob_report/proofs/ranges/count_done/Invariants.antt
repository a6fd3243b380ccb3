use Rattle.std.proofs.Common.{◌≡◌, drop}
use Rattle.gob_report.specs.Counted.{counted_from, ranges_made_by}
use Rattle.gob_report.proofs.ranges.count_done.Given as goal

abbrev pub invariant-loop-i : goal.invariant-loop-i
invariant-loop-i l = counted_from 0 l.counts (ranges_made_by (drop l.i l.fn.done)) ≡ counted_from 0 l.fn.counts
    (ranges_made_by l.fn.done)
