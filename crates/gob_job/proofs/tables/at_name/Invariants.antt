use Rattle.std.proofs.Common.{◌≡◌, drop, map}
use Rattle.gob_bytes.specs.Tables.{at_name}
use Rattle.gob_job.specs.Names.{word_and_value}
use Rattle.gob_job.proofs.tables.at_name.Given as goal

abbrev pub invariant-loop-entry : goal.invariant-loop-entry
invariant-loop-entry g l = at_name (map word_and_value (drop l.entry-index l.fn.table)) l.fn.word ≡ at_name
    (map word_and_value l.fn.table) l.fn.word
