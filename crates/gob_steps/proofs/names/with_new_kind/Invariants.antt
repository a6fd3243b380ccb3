use Rattle.std.proofs.Common.{◌≡◌, take}
use Rattle.gob_meaning.specs.Steps.{with_new_kind}
use Rattle.gob_steps.proofs.names.with_new_kind.Given as goal

abbrev pub invariant-loop-column : goal.invariant-loop-column
invariant-loop-column l = record {
  items : l.column-items ≡ l.columns;
  list : l.list ≡ with_new_kind l.name l.kind (take l.column-index l.columns);
}
