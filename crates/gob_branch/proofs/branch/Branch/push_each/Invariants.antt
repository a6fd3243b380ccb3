use Rattle.std.proofs.Common.{◌≡◌, Some, length, drop}
use Rattle.gob_convert.specs.Made.{concatenation, made_each}
use Rattle.gob_branch.specs.Branches.{made_of_row}
use Rattle.gob_branch.proofs.Joined.{HasInFront}
use Rattle.gob_branch.proofs.branch.Branch.push_each.Given as goal

abbrev pub invariant-loop-row : goal.invariant-loop-row
invariant-loop-row l = record {
  before : l.before ≡ length l.fn.items;
  made : concatenation (Some l.items) (made_each (made_of_row l.self) (drop l.row-index l.rows))
      ≡ concatenation (Some l.fn.items) (made_each (made_of_row l.self) l.rows);
  kept : HasInFront l.fn.items l.items;
}
