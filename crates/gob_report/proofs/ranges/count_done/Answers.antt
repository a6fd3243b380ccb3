use Rattle.std.proofs.Common.{◌≡◌, get_or, sym, subst}
use Rattle.gob_ledger.specs.Marks.{Done}
use Rattle.gob_report.proofs.Counts.{done_all, done_counted}
use Rattle.gob_report.proofs.ranges.count_done.Goals as goal

pub loop-i-preserved : goal.loop-i-preserved
loop-i-preserved c =
    let d : Done = record { span = c.one.inside.range; pipeline = c.one.inside.pipeline } in
    done_counted c.args.counts.now c.loop-i.counts _ c.args.done.now c.loop-i.i d c.loop-i-test.true
    (subst (λ (x : Done). x ≡ get_or c.args.done.now c.loop-i.i x) (sym c.one.view_is) c.index-done-i.is)
    c.loop-i.invariant c.in_ok-count_one.ensures

pub returns : goal.returns
returns c =
    done_all c.args.counts.now c.loop-i.counts c.args.done.now c.loop-i.i c.loop-i-test.false c.loop-i.invariant
