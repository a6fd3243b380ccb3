use Rattle.std.proofs.Common.{sym, ◌∙◌}
use Rattle.gob_job.proofs.Formed.{check_none, check_some}
use Rattle.gob_job.proofs.checks.check_words.Goals as goal

pub returns-in_default-3 : goal.returns-in_default-3
returns-in_default-3 c =
    check_none c.args.negated c.args.words.now _ c.in-Some.column c.in-len2-up.len_at_least
    (sym c.in_ok-column.ensures ∙ c.in-Some.is) (sym c.in_ok-check.ensures ∙ c.in_default-3.is)

pub returns : goal.returns
returns c =
    check_some c.args.negated c.args.words.now _ c.in-Some.column c.in-Some-2.check c.in-len2-up.len_at_least
    (sym c.in_ok-column.ensures ∙ c.in-Some.is) (sym c.in_ok-check.ensures ∙ c.in-Some-2.is)
