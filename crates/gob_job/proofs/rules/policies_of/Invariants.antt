use Rattle.std.proofs.Common.{◌≡◌, drop, map, option_map}
use Rattle.gob_jobs.specs.Words.{each_read}
use Rattle.gob_jobs.specs.Elements.{rule_read}
use Rattle.gob_jobs.specs.KeyTable.{strict_rule}
use Rattle.gob_job.specs.Cuts.{texts_of}
use Rattle.gob_job.specs.Loops.{behind}
use Rattle.gob_job.proofs.rules.policies_of.Given as goal

abbrev pub invariant-loop-element : goal.invariant-loop-element
invariant-loop-element l = behind l.policies (option_map (map strict_rule)
    (each_read (rule_read l.fn.branches) (texts_of (drop l.element-index l.fn.elements)))) ≡ option_map
    (map strict_rule) (each_read (rule_read l.fn.branches) (texts_of l.fn.elements))
