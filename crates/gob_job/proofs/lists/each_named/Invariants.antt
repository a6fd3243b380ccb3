use Rattle.std.proofs.Common.{◌≡◌, drop, map}
use Rattle.gob_jobs.specs.Words.{each_read}
use Rattle.gob_job.specs.Cuts.{texts_of}
use Rattle.gob_job.specs.Loops.{behind}
use Rattle.gob_bytes.specs.Tables.{at_name}
use Rattle.gob_job.specs.Names.{word_and_value}
use Rattle.gob_job.proofs.lists.each_named.Given as goal

abbrev pub invariant-loop-element : goal.invariant-loop-element
invariant-loop-element g l = behind l.values (each_read (at_name (map word_and_value l.fn.table))
    (texts_of (drop l.element-index l.fn.elements))) ≡ each_read (at_name (map word_and_value l.fn.table))
    (texts_of l.fn.elements)
