use Rattle.std.proofs.Common.{◌≤◌, sym, ap, subst, ◌∙◌}
use Rattle.gob_state.proofs.WriteLemmas.{got_at}
use Rattle.gob_report.specs.Counted.{counted_from, ranges_made_by}
use Rattle.gob_report.proofs.Counts.{part_counted, parts_all}
use Rattle.gob_report.proofs.ranges.count_parts.Goals as goal

pub loop-i-preserved : goal.loop-i-preserved
loop-i-preserved c =
    let at = got_at c.args.table.now c.loop-i.i (c.in-Some.field-0-0.now, c.in-Some.marks.now) (sym c.in-Some.ensures)
    in
    part_counted c.args.counts.now c.loop-i.counts _ c.args.table.now c.loop-i.i
    (c.in-Some.field-0-0.now, c.in-Some.marks.now) at.0 at.1 c.loop-i.invariant
    (c.in_ok-count_done-in-Some.ensures ∙ ap (λ ds. counted_from 0 c.loop-i.counts (ranges_made_by ds))
    c.done.ensures.done)

pub returns : goal.returns
returns c =
    parts_all c.args.counts.now c.loop-i.counts c.args.table.now c.loop-i.i
    (subst (λ n. n ≤ c.loop-i.i) c.len-i-end.ensures.len c.loop-i-test.false) c.loop-i.invariant
