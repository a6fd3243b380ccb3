-- One more branch.
use Rattle.std.proofs.Common.{◌≡◌, ℕ, suc, ◌+◌, ◌-◌, ◌<◌, List, ◌∷◌, ◌++◌, Result, Ok, Err, refl, sym, ap, ◌∙◌}
use Rattle.std.proofs.Common.{arith}
use Rattle.std.specs.List.{range_with_len, flat_map}
use Rattle.gob_jobs.specs.Words.{and_then}
use Rattle.gob_jobs.specs.KeyTable.{Row}
use Rattle.gob_jobs.specs.Reading.{LookUp, Reading, JobFault, read_rows, read_branches, with_branch}
use Rattle.gob_job.specs.declared.faults.JobFault.{JobFault as JobFaultMade}
use Rattle.gob_job.specs.Faults.{Gives}
use Rattle.gob_job.proofs.Due.{gives_same}

-- the numbers from this one on
pub range_more : (b n : ℕ) → b < n → range_with_len b (n - b) ≡ b ∷ range_with_len (b + 1) (n - (b + 1))
range_more b n inside = let e : n - b ≡ suc (n - (b + 1)) = omega arith in rw e refl

at_hand : (look : LookUp) (rows : List Row) (b n : ℕ) (r : Reading) → b < n
    → read_branches look rows (range_with_len b (n - b)) r
    ≡ and_then (λ s. read_branches look rows (range_with_len (b + 1) (n - (b + 1))) (with_branch s))
    (read_rows look rows b r)
at_hand look rows b n r inside = ap (λ bs. read_branches look rows bs r) (range_more b n inside)

pub branch_read : (look : LookUp) (rows : List Row) (b n : ℕ) (r s t : Reading) {whole : Result Reading JobFault}
    → b < n → read_branches look rows (range_with_len b (n - b)) r ≡ whole → read_rows look rows b r ≡ Ok s
    → t ≡ with_branch s
    → read_branches look rows (range_with_len (b + 1) (n - (b + 1))) t ≡ whole
branch_read look rows b n r s t inside so_far read joined =
    let later = range_with_len (b + 1) (n - (b + 1)) in
    ap (read_branches look rows later) joined
    ∙ (sym (ap (and_then (λ x. read_branches look rows later (with_branch x))) read)
    ∙ (sym (at_hand look rows b n r inside) ∙ so_far))

pub branch_fault : {A B : Type 0} (u : A → Reading) (v : B → Reading) (look : LookUp) (rows : List Row) (b n : ℕ)
    (r : Reading) (e : JobFaultMade) {whole : Result Reading JobFault} → b < n
    → read_branches look rows (range_with_len b (n - b)) r ≡ whole → Gives u (Err e) (read_rows look rows b r)
    → Gives v (Err e) whole
branch_fault u v look rows b n r e {whole} inside so_far refused =
    gives_same u v e (read_rows look rows b r) whole
    (λ f is. sym so_far ∙ (at_hand look rows b n r inside
    ∙ ap (and_then (λ x. read_branches look rows (range_with_len (b + 1) (n - (b + 1))) (with_branch x))) is)) refused

-- the lines of one more branch
pub branch_line : {X : Type 0} (f : ℕ → List X) (b n : ℕ) → b < n
    → flat_map f (range_with_len b (n - b)) ≡ f b ++ flat_map f (range_with_len (b + 1) (n - (b + 1)))
branch_line f b n inside = ap (flat_map f) (range_more b n inside)
