use Rattle.std.proofs.Common.{sym, ◌∙◌}
use Rattle.gob_job.proofs.ValuesAt.{value_fine, value_bad}
use Rattle.gob_job.proofs.values.value_at.Goals as goal

pub returns-in-Ok : goal.returns-in-Ok
returns-in-Ok c = value_fine c.args.key.now c.args.value.now _
    (sym c.has_interpolation.ensures ∙ c.if-has_interpolation.false) c.in-Ok.ensures.cases.1 c.in-Ok.ensures.cases.0

pub returns-in_ok-from_str-in-Err : goal.returns-in_ok-from_str-in-Err
returns-in_ok-from_str-in-Err c =
    value_bad c.args.key.now _ c.args.value.now (sym c.has_interpolation.ensures ∙ c.if-has_interpolation.false)
    c.in-Err.ensures.cases.0 c.in_ok-from_str-in-Err.ensures
