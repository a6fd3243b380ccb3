-- What is known of a job whose keys were read.
use Rattle.std.proofs.Common.{◌≡◌, ℕ, ◌≤◌, List, Ok, Err, ap}
use Rattle.gob_bytes.specs.Tables.{Table, at_name}
use Rattle.gob_jobs.specs.Words.{value_map}
use Rattle.gob_jobs.specs.KeyTable.{first_rows, branch_rows, last_rows}
use Rattle.gob_jobs.specs.Laws.{IsJob}
use Rattle.gob_jobs.specs.Reading.{Reading, read_table, nothing_read, job_read, job_of}
use Rattle.gob_jobs.proofs.Jobs.{jobs_right}
use Rattle.gob_meaning.specs.Job.{Job}
use Rattle.gob_job.specs.declared.faults.JobFault.{JobFault}
use Rattle.gob_job.specs.Faults.{Gives}
use Rattle.gob_job.specs.Readings.{reading_from}
use Rattle.gob_job.proofs.Due.{gives_map}

pub job_made : (name : List ℕ) (entries : Table (List ℕ)) (r : Reading)
    → read_table (at_name entries) first_rows branch_rows last_rows nothing_read ≡ Ok r
    → job_of name entries ≡ Ok (job_read name (at_name entries) r)
unfolding job_of
job_made name entries r is = ap (value_map (job_read name (at_name entries))) is

pub job_known : (name : List ℕ) (entries : Table (List ℕ)) (r : Reading)
    → read_table (at_name entries) first_rows branch_rows last_rows nothing_read ≡ Ok r
    → IsJob name (job_read name (at_name entries) r)
job_known name entries r is = jobs_right name entries (job_read name (at_name entries) r) (job_made name entries r is)

-- a fault of its keys is the job's
pub job_refused : {A : Type 0} (t : A → Job) (name : List ℕ) (entries : Table (List ℕ)) (e : JobFault)
    → Gives reading_from (Err e) (read_table (at_name entries) first_rows branch_rows last_rows nothing_read)
    → Gives t (Err e) (job_of name entries)
unfolding job_of
job_refused t name entries e is = gives_map reading_from t (job_read name (at_name entries)) e
    (read_table (at_name entries) first_rows branch_rows last_rows nothing_read) is

-- ---- its numbers fit

pub units_fit : (name : List ℕ) (entries : Table (List ℕ)) (r : Reading)
    → read_table (at_name entries) first_rows branch_rows last_rows nothing_read ≡ Ok r
    → r.rules.limits.max_new_units ≤ 10000
units_fit name entries r is = (job_known name entries r is).ranges.max_new_units.1

pub slots_fit : (name : List ℕ) (entries : Table (List ℕ)) (r : Reading)
    → read_table (at_name entries) first_rows branch_rows last_rows nothing_read ≡ Ok r → r.rules.turns.slots ≤ 64
slots_fit name entries r is = (job_known name entries r is).ranges.slots.1

pub piece_fits : (name : List ℕ) (entries : Table (List ℕ)) (r : Reading)
    → read_table (at_name entries) first_rows branch_rows last_rows nothing_read ≡ Ok r → r.rules.turns.piece ≤ 1048576
piece_fits name entries r is = (job_known name entries r is).ranges.piece.1

pub retries_fit : (name : List ℕ) (entries : Table (List ℕ)) (r : Reading)
    → read_table (at_name entries) first_rows branch_rows last_rows nothing_read ≡ Ok r → r.rules.max_retries ≤ 100
retries_fit name entries r is = (job_known name entries r is).ranges.max_retries
