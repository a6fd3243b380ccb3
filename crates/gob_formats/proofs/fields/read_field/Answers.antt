use Rattle.std.proofs.Common.{arith, ap}
use Rattle.std.proofs.lemmas.Grind.{common_steps}
use Rattle.gob_meaning.specs.Formats.{field_value}
use Rattle.gob_formats.proofs.Texts.{bad_field_text, field_is_read}
use Rattle.gob_formats.proofs.fields.read_field.Goals as goal

pub returns-in_default-clause-bad : goal.returns-in_default-clause-bad
returns-in_default-clause-bad c = λ _. bad_field_text c.args.kind c.args.field.now c.in_default.ensures.cases.0

pub returns-clause-ok : goal.returns-clause-ok
returns-clause-ok c =
    let read = field_is_read c.args.kind c.args.field.now c.in-Ok.ensures.cases.1 in
    let same = ap (field_value c.args.kind) c.in-Ok.ensures.cases.0 in
    rw read (grind (arith, common_steps))

pub returns-clause-bad : goal.returns-clause-bad
returns-clause-bad c =
    let read = field_is_read c.args.kind c.args.field.now c.in-Ok.ensures.cases.1 in
    let same = ap (field_value c.args.kind) c.in-Ok.ensures.cases.0 in
    rw read (grind (arith, common_steps))
