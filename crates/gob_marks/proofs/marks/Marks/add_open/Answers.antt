use Rattle.std.proofs.Common.{◌<◌, ap, refl, arith}
use Rattle.gob_ledger.specs.Marks as marks
use Rattle.gob_ledger.proofs.Ranges.{tiled_owed}
use Rattle.gob_marks.proofs.marks.Marks.add_open.Goals as goal

pub invariant_of-self-2 : goal.invariant_of-self-2
invariant_of-self-2 c =
    let before : marks.Marks = record {
      next = c.self.inside.next;
      finished = c.self.inside.done.items;
      owed = c.self.inside.owed;
    } in
    let some : c.self.inside.next < c.args.hi =
    omega (arith, ap (λ (m : marks.Marks). m.next) c.self.view_is, c.requires) in
    rw c.in_ok-push.ensures.ok (tiled_owed before
    (record { lo = c.self.inside.next; hi = c.args.hi }) c.self.invariant refl some)
