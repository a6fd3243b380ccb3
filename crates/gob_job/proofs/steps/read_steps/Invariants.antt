use Rattle.std.proofs.Common.{◌≡◌, drop}
use Rattle.gob_jobs.specs.Elements.{steps_read}
use Rattle.gob_job.specs.Cuts.{texts_of}
use Rattle.gob_job.specs.Loops.{behind_ok}
use Rattle.gob_job.proofs.steps.read_steps.Given as goal

abbrev pub invariant-loop-element : goal.invariant-loop-element
invariant-loop-element l = behind_ok l.steps (steps_read l.left (texts_of (drop l.element-index l.fn.elements))) ≡
    steps_read l.fn.columns (texts_of l.fn.elements)
