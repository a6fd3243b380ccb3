use Rattle.std.proofs.Common.{◌≡◌, drop}
use Rattle.gob_jobs.specs.Words.{each_read}
use Rattle.gob_job.specs.Cuts.{texts_of}
use Rattle.gob_job.specs.Loops.{behind}
use Rattle.gob_jobs.specs.KeyTable.{column_read}
use Rattle.gob_job.proofs.lists.each_column.Given as goal

abbrev pub invariant-loop-element : goal.invariant-loop-element
invariant-loop-element l = behind l.columns (each_read column_read (texts_of (drop l.element-index l.fn.elements))) ≡
    each_read column_read (texts_of l.fn.elements)
