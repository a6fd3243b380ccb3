use Rattle.std.proofs.Common.{ap, ◌∙◌, arith}
use Rattle.gob_ledger.specs.Units.{next_of}
use Rattle.gob_cut.proofs.Listed.{grown_apart, grown_begins, grown_below, grown_cursor, grown_step}
use Rattle.gob_cut.proofs.run_units.first_cursors.Goals as goal

pub loop-place-preserved : goal.loop-place-preserved
loop-place-preserved c =
    let inv = c.loop-place.invariant in
    let kept = c.args.kept.now in
    let e = c.index-kept-place.result in
    let before = c.loop-place.cursors.items in
    let after = c.push_grown.new.cursors.items in
    record {
      cursors = grown_cursor kept c.loop-place.place e c.next_of-at.result before after (omega arith)
          c.index-kept-place.is c.in_ok-push_grown.ensures inv.cursors;
      apart = grown_apart c.loop-place.place e c.next_of-at.result before after c.in_ok-push_grown.ensures inv.below
          inv.apart;
      below = grown_below c.loop-place.place e c.next_of-at.result before after c.in_ok-push_grown.ensures inv.below;
      begins = grown_begins kept c.loop-place.place e c.next_of-at.result (next_of c.args.marks.now) before after
          (omega arith) c.index-kept-place.is
          (c.next_of-at.ensures ∙ ap (next_of c.args.marks.now) c.as_str.ensures) c.in_ok-push_grown.ensures inv.begins;
      cuts = λ held max sized. grown_step held max c.args.marks.now kept c.loop-place.place e c.next_of-at.result before
          after (omega arith) c.index-kept-place.is
          (c.next_of-at.ensures ∙ ap (next_of c.args.marks.now) c.as_str.ensures) c.in_ok-push_grown.ensures sized
          (inv.cuts held max sized);
    }
