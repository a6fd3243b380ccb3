use Rattle.std.proofs.Common.{◌≡◌, take}
use Rattle.gob_steps.proofs.names.same.Given as goal

abbrev pub invariant-loop-column : goal.invariant-loop-column
invariant-loop-column l = record {
  items : l.column-items ≡ l.columns;
  list : l.list ≡ take l.column-index l.columns;
}
