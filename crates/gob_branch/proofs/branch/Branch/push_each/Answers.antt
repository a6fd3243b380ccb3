use Rattle.std.proofs.Common.{Some}
use Rattle.gob_convert.specs.Made.{concatenation, made_each}
use Rattle.gob_branch.specs.Branches.{made_of_row}
use Rattle.gob_branch.proofs.Joined.{made_on, front_on}
use Rattle.gob_branch.proofs.branch.Branch.push_each.Goals as goal

pub loop-row-preserved : goal.loop-row-preserved
loop-row-preserved c =
    let f = made_of_row c.args.self.now in
    let now = c.loop-row.items in
    let next = c.push_made.new.items in
    record {
      before = c.loop-row.invariant.before;
      made = made_on f c.args.rows.now c.loop-row.row-index c.row-item.result now next
          (concatenation (Some c.args.items.now) (made_each f c.args.rows.now)) c.loop-row-test.true c.row-item.is
          c.loop-row.invariant.made c.in_default.ensures.ok;
      kept = front_on c.args.items.now now next (f c.row-item.result) c.loop-row.invariant.kept
          c.in_default.ensures.ok;
    }
