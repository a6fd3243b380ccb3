use Rattle.std.proofs.Common.{◌≡◌, take}
use Rattle.gob_meaning.specs.Steps.{columns_but}
use Rattle.gob_steps.proofs.names.columns_but.Given as goal

abbrev pub invariant-loop-column : goal.invariant-loop-column
invariant-loop-column l = record {
  items : l.column-items ≡ l.columns;
  list : l.list ≡ columns_but l.names (take l.column-index l.columns);
}
