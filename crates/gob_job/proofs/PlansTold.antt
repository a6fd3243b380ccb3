-- What a pipeline text's values tell, from the rows that tell the plan.
use Rattle.std.proofs.Common.{◌≡◌, false, List, filter, Some, None, Ok, Err, sym, ap}
use Rattle.std.proofs.Common.{◌∙◌}
use Rattle.std.specs.Option.{option_map}
use Rattle.std.specs.Result.{result_ok}
use Rattle.gob_meaning.specs.Plans.{without_rules}
use Rattle.gob_jobs.specs.KeyTable.{Row, tells_plan, first_rows, branch_rows, last_rows}
use Rattle.gob_jobs.specs.Reading.{LookUp, Reading, nothing_read, read_table}
use Rattle.gob_jobs.specs.Plans.{plan_told}
use Rattle.gob_job.specs.declared.faults.JobFault.{JobFault}
use Rattle.gob_job.specs.Faults.{Gives, is_memory}
use Rattle.gob_job.proofs.Due.{gives_none, gives_same}

-- the rows, and where their reading begins
pub record AreTold (fs es ls : List Row) (start : Reading) : Type 0 where
  pub firsts : fs ≡ filter tells_plan first_rows
  pub each : es ≡ filter tells_plan branch_rows
  pub lasts : ls ≡ filter tells_plan last_rows
  pub begins : start ≡ nothing_read

same_table : (look : LookUp) (fs es ls : List Row) (start : Reading) → AreTold fs es ls start
    → read_table look fs es ls start ≡ read_table look (filter tells_plan first_rows) (filter tells_plan branch_rows)
    (filter tells_plan last_rows) nothing_read
same_table look fs es ls start told = (λ i. read_table look (told.firsts i) (told.each i) (told.lasts i)
    (told.begins i))

pub told_ok : (look : LookUp) (fs es ls : List Row) (start r : Reading) → AreTold fs es ls start
    → read_table look fs es ls start ≡ Ok r → Some (without_rules r.draft.plan) ≡ plan_told look
unfolding plan_told
told_ok look fs es ls start r told is =
    sym (ap (λ t. option_map (λ (x : Reading). without_rules x.draft.plan) (result_ok t))
    (sym (same_table look fs es ls start told) ∙ is))

pub told_none : {A : Type 0} (s : A → Reading) (look : LookUp) (fs es ls : List Row) (start : Reading) (e : JobFault)
    → AreTold fs es ls start → is_memory e ≡ false → Gives s (Err e) (read_table look fs es ls start)
    → None ≡ plan_told look
unfolding plan_told
told_none s look fs es ls start e told other is =
    sym (ap (option_map (λ (x : Reading). without_rules x.draft.plan))
    (ap result_ok (sym (same_table look fs es ls start told))
    ∙ gives_none s e (read_table look fs es ls start) other is))

-- ---- all rows

same_all : (look : LookUp) (fs es ls : List Row) (start : Reading) → fs ≡ first_rows → es ≡ branch_rows → ls ≡ last_rows
    → start ≡ nothing_read
    → read_table look fs es ls start ≡ read_table look first_rows branch_rows last_rows nothing_read
same_all look fs es ls start f e l s = (λ i. read_table look (f i) (e i) (l i) (s i))

pub all_read : (look : LookUp) (fs es ls : List Row) (start r : Reading) → fs ≡ first_rows → es ≡ branch_rows
    → ls ≡ last_rows → start ≡ nothing_read → read_table look fs es ls start ≡ Ok r
    → read_table look first_rows branch_rows last_rows nothing_read ≡ Ok r
all_read look fs es ls start r f e l s is = sym (same_all look fs es ls start f e l s) ∙ is

pub all_fault : {A B : Type 0} (u : A → Reading) (v : B → Reading) (look : LookUp) (fs es ls : List Row)
    (start : Reading) (fault : JobFault) → fs ≡ first_rows → es ≡ branch_rows → ls ≡ last_rows → start ≡ nothing_read
    → Gives u (Err fault) (read_table look fs es ls start)
    → Gives v (Err fault) (read_table look first_rows branch_rows last_rows nothing_read)
all_fault u v look fs es ls start fault f e l s is =
    gives_same u v fault (read_table look fs es ls start)
    (read_table look first_rows branch_rows last_rows nothing_read)
    (λ why refused. sym (same_all look fs es ls start f e l s) ∙ refused) is
