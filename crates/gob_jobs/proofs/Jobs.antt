-- What is known of a job that was read.
use Rattle.std.proofs.Common.{◌≡◌, ◌≤◌, ℕ, Bool, true, nat_le, List, length, Some, Ok, refl, sym, ap, subst, ◌∙◌}
use Rattle.std.specs.List.{AllByRecursion}
use Rattle.std.proofs.lemmas.List.Elements.{All-from_recursion}
use Rattle.gob_bytes.specs.Tables.{Table, at_name}
use Rattle.gob_meaning.specs.Job.{Job}
use Rattle.gob_jobs.specs.KeyTable.{first_rows, branch_rows, last_rows}
use Rattle.gob_jobs.specs.Reading.{LookUp, Reading, read_table, nothing_read, with_rules, job_read, job_of}
use Rattle.gob_jobs.specs.Laws.{IsInRanges, IsJob, JobsAreRight}
use Rattle.gob_jobs.proofs.Results.{map_ok}
use Rattle.gob_jobs.proofs.Rows.{with_draft}
use Rattle.gob_jobs.proofs.Tells.{Spelled, fitting, spelled, job_told, is_pipeline, tells}
use Rattle.gob_jobs.proofs.Ranges.{WithSkips, TasksFit, TurnsFit, rules_known}

in_ranges : (name : List ℕ) (look : LookUp) (r : Reading) → WithSkips r.rules → TurnsFit r.rules
    → IsInRanges (job_read name look r)
in_ranges name look r first last = record {
  max_bytes = first.0;
  max_new_units = first.1;
  skip_errors = first.2;
  max_retries = last.0;
  slots = last.1;
  piece = last.2;
  turns = last.3;
  schedule = All-from_recursion (λ n. n ≤ 63) r.rules.turns.schedule last.4;
}

read_job : (name : List ℕ) (look : LookUp) (r : Reading) → read_table look first_rows branch_rows last_rows nothing_read
    ≡ Ok r → IsJob name (job_read name look r)
read_job name look r is =
    let known = rules_known look r is in
    let told = job_told look r is in
    let spelt : Spelled look (with_draft r.draft nothing_read) = spelled look (with_draft r.draft nothing_read) told in
    record {
      named = refl;
      fitting = fitting look (with_draft r.draft nothing_read) r.rules told known.0.1 known.0.2;
      ranges = in_ranges name look r known.1 known.2;
      pipeline = is_pipeline look (with_draft r.draft nothing_read) spelt;
      tells = tells look (with_draft r.draft nothing_read) spelt;
    }

pub jobs_right : JobsAreRight
unfolding job_of
jobs_right name entries job is =
    let look : LookUp = at_name entries in
    let m = map_ok (job_read name look) (read_table look first_rows branch_rows last_rows nothing_read) job is in
    subst (IsJob name) m.2 (read_job name look m.0 m.1)
