use Rattle.gob_meaning.proofs.Dates.{dates_are}
use Rattle.gob_meaning.proofs.Computed.{day_table}
use Rattle.gob_meaning.proofs.days_have_dates.Goals as goal

pub returns-clause-dates : goal.returns-clause-dates
returns-clause-dates c = dates_are

pub returns-clause-folders : goal.returns-clause-folders
returns-clause-folders c = day_table
