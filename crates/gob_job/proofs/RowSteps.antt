-- A row read, by its value.
use Rattle.std.proofs.Common.{◌≡◌, ℕ, List, Ok, Err, sym, ap, subst}
use Rattle.gob_jobs.specs.Words.{and_then, fault_map}
use Rattle.gob_jobs.specs.KeyTable.{Row}
use Rattle.gob_jobs.specs.Reading.{LookUp, Reading, key_that_counts, value_of_row, fault_at, read_value}
use Rattle.gob_jobs.specs.Reading.{read_row}
use Rattle.gob_job.specs.declared.faults.ValueFault.{ValueFault}
use Rattle.gob_job.specs.declared.faults.JobFault.{JobFault as JobFaultMade}
use Rattle.gob_job.specs.Faults.{at_key, ReadsValue, Gives}
use Rattle.gob_job.proofs.Due.{gives_then, reads_gives}

pub row_value : (look : LookUp) (row : Row) (b : ℕ) (r : Reading) (value : List ℕ)
    → value_of_row look row b r.draft.plan ≡ Ok value
    → read_row look row b r ≡ fault_map (fault_at (key_that_counts look row b)) (read_value row.reader r value)
unfolding read_row
row_value look row b r value is = ap (and_then (λ v. fault_map (fault_at (key_that_counts look row b))
    (read_value row.reader r v))) is

-- a value that is refused
pub row_refused : {A : Type 0} (t : A → Reading) (u : A → Reading) (look : LookUp) (row : Row) (b : ℕ) (r : Reading)
    (value key : List ℕ) (e : ValueFault) → value_of_row look row b r.draft.plan ≡ Ok value
    → key ≡ key_that_counts look row b
    → ReadsValue u (Err e) (read_value row.reader r value) → Gives t (Err (at_key key e)) (read_row look row b r)
row_refused t u look row b r value key e is counts refused =
    subst (Gives t (Err (at_key key e))) (sym (row_value look row b r value is))
    (subst (λ k. Gives t (Err (at_key key e)) (fault_map (fault_at k) (read_value row.reader r value))) counts
    (reads_gives u t key e (read_value row.reader r value) refused))

-- a value that isn't there, or is none
pub row_fault : {A B : Type 0} (s : A → List ℕ) (t : B → Reading) (look : LookUp) (row : Row) (b : ℕ) (r : Reading)
    (e : JobFaultMade) → Gives s (Err e) (value_of_row look row b r.draft.plan)
    → Gives t (Err e) (read_row look row b r)
unfolding read_row
row_fault s t look row b r e is = gives_then s t (λ v. fault_map (fault_at (key_that_counts look row b))
    (read_value row.reader r v)) e (value_of_row look row b r.draft.plan) is
