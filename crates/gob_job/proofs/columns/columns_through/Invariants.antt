use Rattle.std.proofs.Common.{◌≡◌, drop}
use Rattle.gob_meaning.specs.Steps.{columns_through}
use Rattle.gob_job.proofs.columns.columns_through.Given as goal

abbrev pub invariant-loop-step : goal.invariant-loop-step
invariant-loop-step l = columns_through (drop l.step-index l.fn.steps) l.left ≡ columns_through l.fn.steps l.fn.columns
