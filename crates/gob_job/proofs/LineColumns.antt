-- The columns of whole lines are columns.
use Rattle.std.proofs.Common.{◌≡◌, false, List, sym, ap, ◌∙◌}
use Rattle.std.proofs.lemmas.Bool.{true≢false}
use Rattle.gob_plan.specs.declared.rows.Column.{Column}
use Rattle.gob_plan.specs.Columns.{is_columns}
use Rattle.gob_jobs.specs.KeyTable.{line_columns}

pub line_fine : (columns : List Column) → columns ≡ line_columns → is_columns columns ≡ false → ⊥
unfolding is_columns
line_fine columns is bad = true≢false (sym (ap is_columns is) ∙ bad)
