-- What the code has read, as the key table has it.
use Rattle.std.specs.declared.result.Result.{Result}
use Rattle.gob_jobs.specs.Reading.{Reading, JobFault}
use Rattle.gob_job.specs.declared.faults.JobFault.{JobFault as JobFaultMade}
use Rattle.gob_job.specs.declared.reading.Reading.{Reading as ReadingHeld}
use Rattle.gob_job.specs.Drafts.{draft_from, rules_from}
use Rattle.gob_job.specs.Faults.{Gives}

abbrev pub reading_from : ReadingHeld → Reading
reading_from r = record { draft = draft_from r.draft; rules = rules_from r.rules }

-- more was read, as it is due
abbrev pub Leaves : ReadingHeld → Result (Unit {0}) JobFaultMade → Result Reading JobFault → Type 0
Leaves new result due = Gives (λ _. reading_from new) result due
