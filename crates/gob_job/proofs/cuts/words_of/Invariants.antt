use Rattle.std.proofs.Common.{◌≡◌, ◌++◌, not, filter}
use Rattle.gob_jobs.specs.Words.{is_blank, is_empty, pieces}
use Rattle.gob_job.specs.Cuts.{left_length, pieces_left, texts_of}
use Rattle.gob_job.proofs.cuts.words_of.Given as goal

abbrev pub invariant-loop-left : goal.invariant-loop-left
invariant-loop-left l = filter (λ word. not (is_empty word)) (pieces is_blank l.fn.element) ≡ texts_of l.words.items
    ++ filter (λ word. not (is_empty word)) (pieces_left is_blank l.left)

abbrev pub decreases-loop-left : goal.decreases-loop-left
decreases-loop-left l = left_length l.left
