use Rattle.std.proofs.Common.{arith}
use Rattle.gob_report.proofs.Counts.{none_counted, one_more}
use Rattle.gob_report.proofs.ranges.count_one.Goals as goal

pub returns-in-Some : goal.returns-in-Some
returns-in-Some c =
    one_more c.args.counts.now c.args.index c.in-Some.more c.if-index-counts.true (omega (arith, c.in-Some.ensures.1))

pub returns-else-index-counts : goal.returns-else-index-counts
returns-else-index-counts c =
    none_counted 0 c.args.counts.now c.args.index (omega (arith, c.if-index-counts.false))
