-- The lines of a pipeline text, one after the other.
use Rattle.std.proofs.Common.{◌≡◌, ℕ, ◌+◌, ◌-◌, ◌<◌, true, false, cond, List, [], ◌∷◌, ◌++◌, length, map, filter}
use Rattle.std.proofs.Common.{drop, get_or, refl, sym, ap, ◌∙◌, append_assoc}
use Rattle.std.specs.List.{flat_map, range_with_len}
use Rattle.gob_bytes.specs.Tables.{Table, at_name}
use Rattle.gob_jobs.specs.KeyTable.{first_rows, branch_rows, tells_plan}
use Rattle.gob_jobs.specs.Pipelines.{Setting, setting_line, pipeline_text}
use Rattle.gob_jobs.specs.Reading.{setting_of_row, pipeline_of}
use Rattle.gob_job.specs.declared.rows.Row.{Row}
use Rattle.gob_job.specs.Rows.{row_from, rows_from}
use Rattle.gob_job.specs.PipelineLines.{told_setting, told_lines, pipeline_branch_lines}
use Rattle.gob_job.proofs.ItemLoops.{one_more}
use Rattle.gob_job.proofs.BranchLoops.{range_more}

text_joined : (xs ys : List Setting) → pipeline_text (xs ++ ys) ≡ pipeline_text xs ++ pipeline_text ys
text_joined [] ys = refl
text_joined (x ∷ xs) ys = ap (λ t. setting_line x ++ t) (text_joined xs ys)
    ∙ sym (append_assoc (setting_line x) (pipeline_text xs) (pipeline_text ys))

-- a row that tells the plan, before others
lines_told : (entries : Table (List ℕ)) (b : ℕ) (row : Row) (rows : List Row) → tells_plan (row_from row) ≡ true
    → told_lines entries b (row ∷ rows) ≡ setting_line (told_setting entries row b) ++ told_lines entries b rows
lines_told entries b row rows tells = ap (λ v. pipeline_text
    (map (setting_of_row (at_name entries) b) (cond v (row_from row ∷ filter tells_plan (rows_from rows))
    (filter tells_plan (rows_from rows))))) tells

lines_untold : (entries : Table (List ℕ)) (b : ℕ) (row : Row) (rows : List Row) → tells_plan (row_from row) ≡ false
    → told_lines entries b (row ∷ rows) ≡ told_lines entries b rows
lines_untold entries b row rows tells = ap (λ v. pipeline_text
    (map (setting_of_row (at_name entries) b) (cond v (row_from row ∷ filter tells_plan (rows_from rows))
    (filter tells_plan (rows_from rows))))) tells

pub row_told : (entries : Table (List ℕ)) (b : ℕ) (into more line : List ℕ) (rows : List Row) (i : ℕ) (row : Row)
    {whole : List ℕ} → i < length rows → row ≡ get_or rows i row
    → into ++ told_lines entries b (drop i rows) ≡ whole → tells_plan (row_from row) ≡ true
    → line ≡ setting_line (told_setting entries row b) → more ≡ into ++ line
    → more ++ told_lines entries b (drop (i + 1) rows) ≡ whole
row_told entries b into more line rows i row inside is so_far tells told added =
    let later = told_lines entries b (drop (i + 1) rows) in
    ap (λ m. m ++ later) (added ∙ ap (λ x. into ++ x) told)
    ∙ (append_assoc into (setting_line (told_setting entries row b)) later
    ∙ (ap (λ x. into ++ x) (sym (ap (told_lines entries b) (one_more rows i row inside is)
    ∙ lines_told entries b row (drop (i + 1) rows) tells)) ∙ so_far))

pub row_untold : (entries : Table (List ℕ)) (b : ℕ) (into : List ℕ) (rows : List Row) (i : ℕ) (row : Row)
    {whole : List ℕ} → i < length rows → row ≡ get_or rows i row
    → into ++ told_lines entries b (drop i rows) ≡ whole → tells_plan (row_from row) ≡ false
    → into ++ told_lines entries b (drop (i + 1) rows) ≡ whole
row_untold entries b into rows i row inside is so_far tells =
    ap (λ x. into ++ x) (sym (ap (told_lines entries b) (one_more rows i row inside is)
    ∙ lines_untold entries b row (drop (i + 1) rows) tells)) ∙ so_far

-- ---- branches

pub branch_told : (entries : Table (List ℕ)) (into more : List ℕ) (rows : List Row) (b n : ℕ) {whole : List ℕ} → b < n
    → into ++ pipeline_branch_lines entries (range_with_len b (n - b)) ≡ whole
    → rows_from rows ≡ branch_rows → more ≡ into ++ told_lines entries b rows
    → more ++ pipeline_branch_lines entries (range_with_len (b + 1) (n - (b + 1))) ≡ whole
branch_told entries into more rows b n inside so_far same added =
    let own = map (setting_of_row (at_name entries) b) (filter tells_plan branch_rows) in
    let rest = range_with_len (b + 1) (n - (b + 1)) in
    let later = pipeline_branch_lines entries rest in
    ap (λ m. m ++ later) (added ∙ ap (λ rs. into ++ pipeline_text
    (map (setting_of_row (at_name entries) b) (filter tells_plan rs))) same)
    ∙ (append_assoc into (pipeline_text own) later
    ∙ (ap (λ x. into ++ x)
    (sym (ap (pipeline_branch_lines entries) (range_more b n inside)
    ∙ text_joined own (flat_map (λ c. map (setting_of_row (at_name entries) c) (filter tells_plan branch_rows))
    rest)))
    ∙ so_far))

-- ---- the whole text

pub whole_text : (entries : Table (List ℕ)) (branches : ℕ)
    → pipeline_of (at_name entries) branches ≡ pipeline_text
    (map (setting_of_row (at_name entries) 0) (filter tells_plan first_rows))
    ++ pipeline_branch_lines entries (range_with_len 0 branches)
unfolding pipeline_of
whole_text entries branches =
    text_joined (map (setting_of_row (at_name entries) 0) (filter tells_plan first_rows))
    (flat_map (λ b. map (setting_of_row (at_name entries) b) (filter tells_plan branch_rows))
    (range_with_len 0 branches))
