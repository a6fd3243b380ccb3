use Rattle.std.proofs.Common.{◌≡◌, true}
use Rattle.gob_marks.proofs.Rows.{push_tiled}
use Rattle.gob_marks.proofs.table.MarkTable.push.Goals as goal

pub invariant_of-self-2 : goal.invariant_of-self-2
invariant_of-self-2 c =
    let yes : c.is_above_all.result ≡ true = cc in
    let all = rw (c.as_slice.ensures.value, c.as_str.ensures) at (c.is_above_all.ensures.0 yes) in
    rw c.in_ok-push.ensures.items (push_tiled c.self.inside.parts.items c.args.part c.args.marks c.self.invariant all
    c.next-next.ensures.tiled)
