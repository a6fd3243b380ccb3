use Rattle.std.proofs.Common.{filter, map, sym, ap, ◌∙◌}
use Rattle.gob_jobs.specs.KeyTable.{tells_plan}
use Rattle.gob_jobs.specs.Pipelines.{last_value}
use Rattle.gob_job.specs.LookUps.{setting_from}
use Rattle.gob_job.specs.Readings.{reading_from}
use Rattle.gob_job.specs.Rows.{rows_from}
use Rattle.gob_job.proofs.PlansTold.{AreTold, told_ok, told_none}
use Rattle.gob_job.proofs.job.plan_told.Goals as goal

pub returns-in-Ok : goal.returns-in-Ok
returns-in-Ok c =
    let told : AreTold (rows_from c.as_slice.result.now) (rows_from c.as_slice-2.result.now)
    (rows_from c.as_slice-3.result.now) (reading_from c.in_ok-reading.reading) = record {
      firsts = ap rows_from c.as_slice.ensures.value ∙ (c.in_ok-firsts.ensures
          ∙ ap (filter tells_plan) c.first_rows.ensures);
      each = ap rows_from c.as_slice-2.ensures.value ∙ (c.in_ok-each.ensures
          ∙ ap (filter tells_plan) c.branch_rows.ensures);
      lasts = ap rows_from c.as_slice-3.ensures.value ∙ (c.in_ok-lasts.ensures
          ∙ ap (filter tells_plan) c.last_rows.ensures);
      begins = c.in_ok-reading.ensures;
    } in
    rw c.new-in-Ok.ensures
    (told_ok (last_value (map setting_from c.args.settings.now)) (rows_from c.as_slice.result.now)
    (rows_from c.as_slice-2.result.now) (rows_from c.as_slice-3.result.now)
    (reading_from c.in_ok-reading.reading) (reading_from c.read_table.new.self) told c.in-Ok.ensures)

pub returns-else-is_memory : goal.returns-else-is_memory
returns-else-is_memory c =
    let told : AreTold (rows_from c.as_slice.result.now) (rows_from c.as_slice-2.result.now)
    (rows_from c.as_slice-3.result.now) (reading_from c.in_ok-reading.reading) = record {
      firsts = ap rows_from c.as_slice.ensures.value ∙ (c.in_ok-firsts.ensures
          ∙ ap (filter tells_plan) c.first_rows.ensures);
      each = ap rows_from c.as_slice-2.ensures.value ∙ (c.in_ok-each.ensures
          ∙ ap (filter tells_plan) c.branch_rows.ensures);
      lasts = ap rows_from c.as_slice-3.ensures.value ∙ (c.in_ok-lasts.ensures
          ∙ ap (filter tells_plan) c.last_rows.ensures);
      begins = c.in_ok-reading.ensures;
    } in
    told_none (λ (_ : Unit {0}). reading_from c.read_table.new.self) (last_value (map setting_from c.args.settings.now))
    (rows_from c.as_slice.result.now) (rows_from c.as_slice-2.result.now) (rows_from c.as_slice-3.result.now)
    (reading_from c.in_ok-reading.reading) c.in-Err.fault told (sym c.is_memory.ensures ∙ c.if-is_memory.false)
    c.in-Err.ensures
