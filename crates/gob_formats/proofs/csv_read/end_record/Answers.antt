use Rattle.std.proofs.Common.{◌≡◌, [], ◌∷◌, ◌++◌, None, Some, sym, ap, ◌∙◌, rules}
use Rattle.csv.specs.Records.{fields_of}
use Rattle.gob_convert.specs.declared.convert.ConvertFault.TheVariants.{Bad}
use Rattle.gob_meaning.specs.Formats.{field_values}
use Rattle.gob_formats.proofs.Reading.{row_added}
use Rattle.gob_formats.proofs.csv_read.end_record.Goals as goal

pub returns-in_err-row-clause-bad : goal.returns-in_err-row-clause-bad
returns-in_err-row-clause-bad c =
    let fields = fields_of c.args.draft.now.fields ++ c.args.draft.now.field.items ∷ [] in
    let bad : c.in_err-row.field-0.0 ≡ Bad → field_values c.args.columns.now fields ≡ None =
    λ is_bad. ap (field_values c.args.columns.now) (sym c.in_ok-end_field.ensures.fields)
    ∙ c.in_err-row.ensures.bad is_bad in
    search (rules, bad)

pub returns-clause-ok : goal.returns-clause-ok
returns-clause-ok c =
    let fields = fields_of c.args.draft.now.fields ++ c.args.draft.now.field.items ∷ [] in
    row_added c.args.rows.now.items (field_values c.args.columns.now fields) c.in_ok-row.row
    (ap (field_values c.args.columns.now) (sym c.in_ok-end_field.ensures.fields) ∙ c.in_ok-row.ensures.ok)
    ∙ ap (λ l. Some l) (sym c.in_ok-push.ensures.items)
