use Rattle.std.proofs.Common.{◌++◌, not, filter, append-nil, sym, ap, ◌∙◌}
use Rattle.gob_jobs.specs.Words.{is_blank, is_empty, words_of}
use Rattle.gob_job.specs.Cuts.{pieces_left, texts_of}
use Rattle.gob_job.proofs.cuts.words_of.Goals as goal

pub returns : goal.returns
unfolding words_of
returns c =
    let words = texts_of c.loop-left.words.items in
    sym (append-nil words) ∙ (ap (λ o. words ++ filter (λ word. not (is_empty word)) (pieces_left is_blank o))
    (sym c.in_default.is) ∙ sym c.loop-left.invariant)
