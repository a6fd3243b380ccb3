use Rattle.gob_job.proofs.run_rules.RunRules.read.Goals as goal

pub returns-in-SourceClass : goal.returns-in-SourceClass
returns-in-SourceClass c = λ plan same. rw c.in-SourceClass.is (c.read_source.ensures plan)

pub returns-in-Prefix : goal.returns-in-Prefix
returns-in-Prefix c = λ plan same. rw c.in-Prefix.is (c.read_prefix.ensures plan)

pub returns-in-MaxBytes : goal.returns-in-MaxBytes
returns-in-MaxBytes c = λ plan same. rw c.in-MaxBytes.is (c.read_max_bytes.ensures plan)

pub returns-in-MaxNewUnits : goal.returns-in-MaxNewUnits
returns-in-MaxNewUnits c = λ plan same. rw c.in-MaxNewUnits.is (c.read_max_new_units.ensures plan)

pub returns-in-SkipErrors : goal.returns-in-SkipErrors
returns-in-SkipErrors c = λ plan same. rw c.in-SkipErrors.is (c.read_skip_errors.ensures plan)

pub returns-in-TaskModes : goal.returns-in-TaskModes
returns-in-TaskModes c = λ plan same. rw c.in-TaskModes.is (c.read_modes.ensures plan)

pub returns-in-Policy : goal.returns-in-Policy
returns-in-Policy c = λ plan same. rw c.in-Policy.is (c.read_policy.ensures plan)

pub returns-in-MaxRetries : goal.returns-in-MaxRetries
returns-in-MaxRetries c = λ plan same. rw c.in-MaxRetries.is (c.read_max_retries.ensures plan)

pub returns-in-Slots : goal.returns-in-Slots
returns-in-Slots c = λ plan same. rw c.in-Slots.is (c.read_slots.ensures plan)

pub returns-in-Piece : goal.returns-in-Piece
returns-in-Piece c = λ plan same. rw c.in-Piece.is (c.read_piece.ensures plan)

pub returns-in-Schedule : goal.returns-in-Schedule
returns-in-Schedule c = λ plan same. rw c.in-Schedule.is (c.read_schedule.ensures plan)

pub returns-in-Scope : goal.returns-in-Scope
returns-in-Scope c = λ plan same. rw c.in-Scope.is (c.read_scope.ensures plan)
