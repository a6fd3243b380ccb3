use Rattle.std.proofs.Common.{◌∙◌, ◌++◌, List, ℕ, ap, sym, subst, unwrap_or}
use Rattle.std.specs.declared.option.Option.{Option}
use Rattle.gob_bytes.proofs.Tables.{at_from_member}
use Rattle.gob_ledger.specs.Marks.{Marks}
use Rattle.gob_ledger.specs.Next.{no_marks}
use Rattle.gob_ledger.specs.Delta.{MarksFollow}
use Rattle.gob_marks.specs.Changed.{marks_in}
use Rattle.gob_marks.proofs.Rows.{marks_in-at}
use Rattle.gob_state.proofs.WriteLemmas.{got_at, text_more}
use Rattle.gob_segments.specs.Written.{changed_text}
use Rattle.gob_segments.proofs.delta.push_changes.Goals as goal

pub push_change-requires : goal.push_change-requires
push_change-requires c =
    let part = c.in-Some.part.now in
    let marks = c.in-Some.marks.now in
    let at = got_at c.args.after.now c.loop-i.i (part, marks) (sym c.in-Some.ensures) in
    let here = at_from_member c.args.after.now part marks c.len-i-end.ensures.tiled.names
    (c.loop-i.i, at.0, sym at.1) in
    let after = marks_in-at c.args.after.now part marks here in
    subst (λ (o : Option Marks). MarksFollow (unwrap_or o no_marks) marks) (sym c.get.ensures)
    (subst (MarksFollow (marks_in c.args.before.now part)) after (c.requires part))

pub loop-i-preserved : goal.loop-i-preserved
loop-i-preserved c =
    let part = c.in-Some.part.now in
    let marks = c.in-Some.marks.now in
    let at = got_at c.args.after.now c.loop-i.i (part, marks) (sym c.in-Some.ensures) in
    let known = ap (λ (o : Option Marks). c.loop-i.into.items ++ changed_text part
    (unwrap_or o no_marks) marks) c.get.ensures in
    text_more (λ (e : List ℕ × Marks). changed_text e.0
    (marks_in c.args.before.now e.0) e.1) _ c.loop-i.into.items _ c.args.after.now c.loop-i.i
    (part, marks) at.0 at.1 c.loop-i.invariant (c.in_ok-push_change-in-Some.ensures ∙ known)
