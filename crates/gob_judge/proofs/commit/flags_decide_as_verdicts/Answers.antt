use Rattle.gob_judge.proofs.VerdictLemmas.{allowed_is}
use Rattle.gob_judge.proofs.commit.flags_decide_as_verdicts.Goals as goal

pub returns : goal.returns
returns c = allowed_is
