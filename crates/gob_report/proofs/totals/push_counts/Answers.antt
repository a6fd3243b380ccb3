use Rattle.std.proofs.Common.{map}
use Rattle.gob_report.specs.Lines.{word_text}
use Rattle.gob_report.proofs.Called.{counts_pushed}
use Rattle.gob_report.proofs.totals.push_counts.Goals as goal

pub returns : goal.returns
returns c =
    counts_pushed c.args.into.now.items c.push_line.new.into.items c.push_branches.new.into.items c.args.counts.now
    (map word_text c.tally.result) c.as_slice.result.now c.tally.ensures c.as_slice.ensures c.in_ok-push_line.ensures
    c.in_ok-push_branches.ensures
