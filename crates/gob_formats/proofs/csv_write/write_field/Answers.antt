use Rattle.std.proofs.Common.{◌++◌, sym, ap, ◌∙◌, append-nil}
use Rattle.gob_plan.specs.declared.rows.Value.{Value}
use Rattle.gob_meaning.specs.Values.{value_text}
use Rattle.gob_formats.specs.Fields.{field_written}
use Rattle.gob_formats.proofs.csv_write.write_field.Goals as goal

pub returns-in-Null-clause-ok : goal.returns-in-Null-clause-ok
unfolding field_written
returns-in-Null-clause-ok c =
    sym (append-nil c.args.into.now.items)
    ∙ ap (λ (v : Value). c.args.into.now.items ++ field_written (value_text v)) (sym c.in-Null.is)
