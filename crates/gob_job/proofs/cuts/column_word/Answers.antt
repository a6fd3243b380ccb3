use Rattle.std.proofs.Common.{sym, ◌∙◌}
use Rattle.gob_job.proofs.Words.{no_name, no_text}
use Rattle.gob_job.proofs.cuts.column_word.Goals as goal
use Rattle.gob_job.proofs.cuts.column_word.Goals.{in_default-via-in-Ok+else-is_column_name, in_default-via-in_default}

pub returns-in_default : goal.returns-in_default
returns-in_default c = elim c.in_default.branch [
  | in_default-via-in-Ok+else-is_column_name w ↦ no_name c.args.word.now _ w.in-Ok.ensures.cases.0
      (sym w.is_column_name.ensures ∙ w.if-is_column_name.false)
  | in_default-via-in_default w ↦ no_text _ _ c.args.word.now c.from_utf8.result c.from_utf8.ensures.cases
      w.in_default.not-Ok
]
