use Rattle.std.proofs.Common.{sym}
use Rattle.gob_state.proofs.WriteLemmas.{got_at, text_more}
use Rattle.gob_texts.specs.Report.{mark_line}
use Rattle.gob_report.proofs.marks.push_marks.Goals as goal

pub loop-i-preserved : goal.loop-i-preserved
loop-i-preserved c =
    let at = got_at c.args.table.now c.loop-i.i (c.in-Some.part.now, c.in-Some.marks.now) (sym c.in-Some.ensures) in
    text_more mark_line _ c.loop-i.into.items _ c.args.table.now c.loop-i.i (c.in-Some.part.now, c.in-Some.marks.now)
    at.0 at.1 c.loop-i.invariant c.in_ok-push_mark-in-Some.ensures
