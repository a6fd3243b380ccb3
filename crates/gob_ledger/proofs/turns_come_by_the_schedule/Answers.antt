use Rattle.gob_ledger.proofs.Taking.{by_the_schedule}
use Rattle.gob_ledger.proofs.turns_come_by_the_schedule.Goals as goal

pub returns : goal.returns
returns c = by_the_schedule
