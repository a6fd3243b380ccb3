use Rattle.std.proofs.Common.{◌≡◌, ◌++◌, drop}
use Rattle.gob_meaning.specs.Steps.{with_new_kind}
use Rattle.gob_job.proofs.columns.with_new_kind.Given as goal

abbrev pub invariant-loop-column : goal.invariant-loop-column
invariant-loop-column l = l.retyped ++ with_new_kind l.fn.name l.fn.kind (drop l.column-index l.fn.columns) ≡
    with_new_kind l.fn.name l.fn.kind l.fn.columns
