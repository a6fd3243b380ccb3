use Rattle.std.proofs.Common.{◌≡◌, drop}
use Rattle.gob_jobs.specs.Words.{each_read}
use Rattle.gob_job.specs.Cuts.{texts_of}
use Rattle.gob_job.specs.Loops.{behind}
use Rattle.gob_jobs.specs.Elements.{column_word}
use Rattle.gob_job.proofs.steps.names_of.Given as goal

abbrev pub invariant-loop-word : goal.invariant-loop-word
invariant-loop-word l = behind l.names (each_read column_word (texts_of (drop l.word-index l.fn.words))) ≡ each_read
    column_word (texts_of l.fn.words)
