-- The plan that a pipeline text stands for.
use Rattle.std.specs.Prelude.{◌≡◌, ℕ, List, filter}
use Rattle.std.specs.declared.option.Option.{Option}
use Rattle.std.specs.declared.option.Option.TheVariants.{Some}
use Rattle.std.specs.Option.{option_map, option_and_then}
use Rattle.std.specs.Result.{result_ok}
use Rattle.gob_plan.specs.declared.plan.Plan.{Plan}
use Rattle.gob_meaning.specs.Job.{Job}
use Rattle.gob_meaning.specs.Plans.{without_rules}
use Rattle.gob_jobs.specs.Pipelines.{Setting, settings_in, last_value}
use Rattle.gob_jobs.specs.KeyTable.{tells_plan, first_rows, branch_rows, last_rows}
use Rattle.gob_jobs.specs.Reading.{LookUp, Reading, nothing_read, read_table}

-- the plan that values tell, if no row that tells the plan has a fault
unfoldable pub plan_told : LookUp → Option Plan
plan_told look =
    option_map (λ (r : Reading). without_rules r.draft.plan)
    (result_ok (read_table look (filter tells_plan first_rows) (filter tells_plan branch_rows)
    (filter tells_plan last_rows) nothing_read))

-- the plan that a text stands for, if it is a pipeline text and tells one
unfoldable pub plan_of : List ℕ → Option Plan
plan_of text = option_and_then (λ settings. plan_told (last_value settings)) (settings_in text)

-- the job's pipeline text tells the job's plan
abbrev pub TellsPlan : Job → Type 0
TellsPlan job = plan_of job.pipeline ≡ Some (without_rules job.plan)
