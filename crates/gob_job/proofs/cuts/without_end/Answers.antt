use Rattle.std.proofs.Common.{sym, ◌∙◌}
use Rattle.gob_job.proofs.Trims.{last_blank, last_other}
use Rattle.gob_job.proofs.cuts.without_end.Goals as goal

pub returns-then-not-is_blank : goal.returns-then-not-is_blank
returns-then-not-is_blank c =
    sym (last_other c.loop-left.left.now c.in-len1-up.len_at_least (sym c.is_blank.ensures ∙ c.if-not-is_blank.true))
    ∙ c.loop-left.invariant

pub loop-left-preserved : goal.loop-left-preserved
loop-left-preserved c =
    sym (last_blank c.loop-left.left.now c.in-len1-up.len_at_least (sym c.is_blank.ensures ∙ c.if-not-is_blank.false))
    ∙ c.loop-left.invariant
