use Rattle.std.proofs.Common.{◌≡◌, ◌++◌, drop}
use Rattle.gob_report.specs.Lines.{spaced_words}
use Rattle.gob_report.proofs.lines.push_words.Given as goal

abbrev pub invariant-loop-word : goal.invariant-loop-word
invariant-loop-word l = l.into.items ++ spaced_words (drop l.word-index l.fn.words) ≡ l.fn.into.items
    ++ spaced_words l.fn.words
