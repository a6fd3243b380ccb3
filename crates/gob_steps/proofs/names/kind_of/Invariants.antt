use Rattle.std.proofs.Common.{◌≡◌, drop}
use Rattle.gob_plan.specs.Rows.{kind_of}
use Rattle.gob_steps.proofs.names.kind_of.Given as goal

abbrev pub invariant-loop-column : goal.invariant-loop-column
invariant-loop-column l = kind_of l.name (drop l.column-index l.column-items) ≡ kind_of l.name l.columns
