use Rattle.std.proofs.Common.{sym}
use Rattle.gob_ledger.specs.Spelling.{part_text, version_2}
use Rattle.gob_state.proofs.WriteLemmas.{got_at, text_more}
use Rattle.gob_state.proofs.push.push_parts.Goals as goal

pub loop-i-preserved : goal.loop-i-preserved
loop-i-preserved c =
    let at = got_at c.args.marks.now c.loop-i.i (c.in-Some.part.now, c.in-Some.marks.now) (sym c.in-Some.ensures) in
    text_more (part_text version_2) _ c.loop-i.into.items _ c.args.marks.now c.loop-i.i
    (c.in-Some.part.now, c.in-Some.marks.now) at.0 at.1 c.loop-i.invariant c.in_ok-push_marks-in-Some.ensures
