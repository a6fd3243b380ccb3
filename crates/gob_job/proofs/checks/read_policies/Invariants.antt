use Rattle.std.proofs.Common.{◌≡◌, drop, map}
use Rattle.gob_jobs.specs.Words.{each_or_fault, value_map}
use Rattle.gob_jobs.specs.Elements.{test_read}
use Rattle.gob_jobs.specs.KeyTable.{strict_policy}
use Rattle.gob_job.specs.Cuts.{texts_of}
use Rattle.gob_job.specs.Loops.{behind_ok}
use Rattle.gob_job.proofs.checks.read_policies.Given as goal

abbrev pub invariant-loop-element : goal.invariant-loop-element
invariant-loop-element l = behind_ok l.policies (value_map (map strict_policy)
    (each_or_fault (test_read l.fn.columns) (texts_of (drop l.element-index l.fn.elements)))) ≡ value_map
    (map strict_policy) (each_or_fault (test_read l.fn.columns) (texts_of l.fn.elements))
