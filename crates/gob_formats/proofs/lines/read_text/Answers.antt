use Rattle.std.proofs.Common.{arith}
use Rattle.std.proofs.lemmas.Grind.{common_steps}
use Rattle.gob_formats.proofs.Texts.{bad_line, line_rows_are}
use Rattle.gob_formats.proofs.lines.read_text.Goals as goal

pub returns-in_default-clause-bad : goal.returns-in_default-clause-bad
returns-in_default-clause-bad c = λ _. bad_line c.args.line.now c.in_default.ensures.cases.0

pub returns-clause-ok : goal.returns-clause-ok
returns-clause-ok c =
    let rows = line_rows_are c.args.line.now c.in-Ok.ensures.cases.1 in
    rw rows (grind (arith, common_steps))
