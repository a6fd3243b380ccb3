-- The lines of a pipeline text, as the code adds them.
use Rattle.std.specs.Prelude.{ℕ, List, map, filter}
use Rattle.std.specs.List.{flat_map}
use Rattle.gob_bytes.specs.Tables.{Table, at_name}
use Rattle.gob_jobs.specs.KeyTable.{branch_rows, tells_plan}
use Rattle.gob_jobs.specs.Pipelines.{Setting, pipeline_text}
use Rattle.gob_jobs.specs.Reading.{setting_of_row}
use Rattle.gob_job.specs.declared.rows.Row.{Row}
use Rattle.gob_job.specs.Rows.{row_from, rows_from}

-- a row's setting in a branch
abbrev pub told_setting : Table (List ℕ) → Row → ℕ → Setting
told_setting entries row b = setting_of_row (at_name entries) b (row_from row)

-- the lines of the rows that tell the plan, in a branch
abbrev pub told_lines : Table (List ℕ) → ℕ → List Row → List ℕ
told_lines entries b rows =
    pipeline_text (map (setting_of_row (at_name entries) b) (filter tells_plan (rows_from rows)))

-- those of branches
abbrev pub pipeline_branch_lines : Table (List ℕ) → List ℕ → List ℕ
pipeline_branch_lines entries branches =
    pipeline_text
    (flat_map (λ b. map (setting_of_row (at_name entries) b) (filter tells_plan branch_rows)) branches)
