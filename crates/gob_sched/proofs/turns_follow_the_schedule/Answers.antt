use Rattle.gob_sched.proofs.Following.{follows}
use Rattle.gob_sched.proofs.turns_follow_the_schedule.Goals as goal

pub returns : goal.returns
returns c = follows
