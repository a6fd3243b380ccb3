use Rattle.std.proofs.Common.{sym, ◌∙◌}
use Rattle.gob_text.proofs.LineEnds.{last_end-none, last_end-some}
use Rattle.gob_text.proofs.ends.last_line_end.Goals as goal

pub returns-in_err-memrchr : goal.returns-in_err-memrchr
returns-in_err-memrchr c = c.from_residual.ensures ∙ sym (last_end-none c.args.bytes.now c.in_err-memrchr.ensures)

pub returns : goal.returns
returns c =
    sym (last_end-some c.args.bytes.now c.in_ok-memrchr.field-0 c.in_ok-memrchr.ensures.0 c.in_ok-memrchr.ensures.1)
