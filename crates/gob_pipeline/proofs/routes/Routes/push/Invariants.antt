use Rattle.std.specs.Prelude.{option_copied}
use Rattle.gob_pipeline.specs.Routes.{RowSent}
use Rattle.gob_pipeline.proofs.routes.Routes.push.Given as goal

abbrev pub invariant-loop-branch : goal.invariant-loop-branch
invariant-loop-branch l = RowSent l.self l.row l.fn.items l.items (option_copied l.waiting) l.branch-index
