use Rattle.std.proofs.Common.{sym, ◌∙◌}
use Rattle.gob_text.proofs.LineEnds.{first_end-none, first_end-some}
use Rattle.gob_text.proofs.ends.first_line_end.Goals as goal

pub returns-in_err-memchr : goal.returns-in_err-memchr
returns-in_err-memchr c = c.from_residual.ensures ∙ sym (first_end-none c.args.bytes.now c.in_err-memchr.ensures)

pub returns : goal.returns
returns c =
    sym (first_end-some c.args.bytes.now c.in_ok-memchr.field-0 c.in_ok-memchr.ensures.0 c.in_ok-memchr.ensures.1)
