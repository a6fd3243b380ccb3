use Rattle.std.proofs.Common.{sym, ◌∙◌}
use Rattle.gob_job.proofs.KeyTexts.{other_key, not_text}
use Rattle.gob_job.proofs.pipeline.read_key.Goals as goal
use Rattle.gob_job.proofs.pipeline.read_key.Goals.{in_default-via-in-Ok+else-is_key, in_default-via-in_default}

pub returns-in_default : goal.returns-in_default
returns-in_default c = elim c.in_default.branch [
  | in_default-via-in-Ok+else-is_key w ↦ other_key c.args.key.now (sym w.is_key.ensures ∙ w.if-is_key.false)
  | in_default-via-in_default w ↦ not_text _ _ c.args.key.now c.from_utf8.result c.from_utf8.ensures.cases
      w.in_default.not-Ok
]
