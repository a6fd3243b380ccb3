use Rattle.std.proofs.Common.{ap, not, refl, ◌∙◌}
use Rattle.gob_judge.proofs.VerdictLemmas.{none_false}
use Rattle.gob_judge.proofs.commit.allowed.Goals as goal

pub returns-in-Full : goal.returns-in-Full
returns-in-Full c = rw c.in-Full.is (ap not c.contains.ensures.value ∙ none_false _ refl refl c.args.good.now)
