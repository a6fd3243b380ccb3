use Rattle.std.proofs.Common.{sym, ◌∙◌, ap}
use Rattle.std.specs.Str.{chars}
use Rattle.std.proofs.lemmas.Str.{chars-nil}
use Rattle.gob_plan.proofs.Along.{whole_ending, no_ending}
use Rattle.gob_plan.proofs.like.is_like_some_ending.Goals as goal

pub returns-in-Ended-true : goal.returns-in-Ended-true
returns-in-Ended-true c =
    sym (whole_ending (chars c.loop-after.pattern.now) (chars c.loop-after.text.now)
    (c.in-Ended-true.ensures ∙ c.in-Ended-true.field-0-test)) ∙ c.loop-after.invariant.same

pub returns-in-None : goal.returns-in-None
returns-in-None c =
    sym (no_ending (chars c.loop-after.pattern.now) (chars c.loop-after.text.now)
    (ap chars c.in-None.ensures ∙ chars-nil) (c.in-Ended-false.ensures ∙ c.in-Ended-false.field-0-test))
    ∙ c.loop-after.invariant.same
