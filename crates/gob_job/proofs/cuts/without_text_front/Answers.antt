use Rattle.std.proofs.Common.{sym, ◌∙◌, arith}
use Rattle.std.proofs.lemmas.Str.Pattern.{strip_prefix_char}
use Rattle.gob_job.proofs.Trims.{front_kept}
use Rattle.gob_job.proofs.cuts.without_text_front.Goals as goal

pub returns-in_default-strip_prefix : goal.returns-in_default-strip_prefix
returns-in_default-strip_prefix c =
    sym (front_kept _
    (rw c.in_default.is at (strip_prefix_char 32 _ c.strip_prefix.result c.strip_prefix.ensures.cases (omega arith)))
    (rw c.in_default-strip_prefix.is at (strip_prefix_char 9 _ c.strip_prefix-in_default.result
    c.strip_prefix-in_default.ensures.cases (omega arith))))
    ∙ c.loop-rest.invariant.1
