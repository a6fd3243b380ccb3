use Rattle.std.proofs.Common.{[], Some, List, Option, Bor, ℕ, sym, ap, ap₂, ◌∙◌, arith}
use Rattle.std.proofs.lemmas.List.{drop_all}
use Rattle.gob_convert.specs.Made.{concatenation}
use Rattle.gob_plan.specs.declared.rows.Column.{Column}
use Rattle.gob_meaning.specs.Formats.{field_values}
use Rattle.gob_formats.specs.Splits.{fields_left}
use Rattle.gob_formats.proofs.Reading.{too_many}
use Rattle.gob_formats.proofs.csv_read.plain_row.Goals as goal

pub returns-in-Some-left-clause-bad : goal.returns-in-Some-left-clause-bad
returns-in-Some-left-clause-bad c =
    let l = c.loop-column in
    λ _. sym l.invariant
    ∙ ap₂ (λ (cs : List Column) (left : Option (Bor (List ℕ))).
    concatenation (Some l.values.items) (field_values cs (fields_left left)))
    (drop_all l.column-index c.args.columns.now (omega arith)) c.in-Some-left.is
    ∙ ap (concatenation (Some l.values.items)) (too_many [] c.in-Some-left.field-0.now)
