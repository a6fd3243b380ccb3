use Rattle.std.proofs.Common.{sym, ◌∙◌}
use Rattle.gob_job.proofs.Formed.{step_made}
use Rattle.gob_job.proofs.steps.worded_step.Goals as goal

pub returns-in_ok-step_of-in-Some : goal.returns-in_ok-step_of-in-Some
returns-in_ok-step_of-in-Some c =
    step_made c.args.words.now _ c.in-Some.word _ c.in-len1-up.len_at_least (sym c.at_name.ensures ∙ c.in-Some.is)
    c.in_ok-step_of-in-Some.ensures
