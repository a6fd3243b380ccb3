use Rattle.std.proofs.Common.{◌≡◌, [], None, Some, sym, ap, ◌∙◌, rules}
use Rattle.gob_convert.specs.Made.{concatenation}
use Rattle.gob_convert.specs.declared.convert.ConvertFault.TheVariants.{Bad}
use Rattle.gob_meaning.specs.Formats.{row_of, field_values, csv_line_rows}
use Rattle.csv.specs.declared.parser.State.TheVariants as st
use Rattle.gob_formats.specs.Splits.{comma_fields}
use Rattle.gob_formats.specs.Rows.{rows_on}
use Rattle.gob_formats.proofs.Reading.{row_added}
use Rattle.gob_formats.proofs.Plain.{plain_rows}
use Rattle.gob_formats.proofs.Machine.{marked_rows}
use Rattle.gob_formats.proofs.csv_read.read_records.Goals as goal

pub returns-in_err-row-clause-bad : goal.returns-in_err-row-clause-bad
returns-in_err-row-clause-bad c =
    let bad : c.in_err-row.field-0.0 ≡ Bad → csv_line_rows c.args.columns.now c.args.line.now ≡ None =
    λ is_bad. plain_rows c.args.columns.now c.args.line.now (sym c.is_plain.ensures ∙ c.if-is_plain.true)
    ∙ ap row_of (c.in_err-row.ensures.bad is_bad) in
    search (rules, bad)

pub returns-then-is_plain-clause-ok : goal.returns-then-is_plain-clause-ok
returns-then-is_plain-clause-ok c =
    ap (concatenation (Some c.args.rows.now.items))
    (plain_rows c.args.columns.now c.args.line.now (sym c.is_plain.ensures ∙ c.if-is_plain.true))
    ∙ row_added c.args.rows.now.items (field_values c.args.columns.now (comma_fields [] c.args.line.now))
    c.in_ok-row.row
    c.in_ok-row.ensures.ok
    ∙ ap (λ l. Some l) (sym c.in_ok-push.ensures.items)

pub returns-in_err-read_marked-clause-bad : goal.returns-in_err-read_marked-clause-bad
returns-in_err-read_marked-clause-bad c =
    let bad : c.in_err-read_marked.field-0.0 ≡ Bad → csv_line_rows c.args.columns.now c.args.line.now ≡ None =
    λ is_bad. marked_rows c.args.columns.now c.args.line.now
    ∙ ap (rows_on c.args.columns.now st.StartRecord [] []) (sym c.without_mark.ensures)
    ∙ c.in_err-read_marked.ensures.bad is_bad in
    search (rules, bad)

pub returns-clause-ok : goal.returns-clause-ok
returns-clause-ok c =
    ap (concatenation (Some c.args.rows.now.items))
    (marked_rows c.args.columns.now c.args.line.now
    ∙ ap (rows_on c.args.columns.now st.StartRecord [] []) (sym c.without_mark.ensures))
    ∙ c.in_ok-read_marked.ensures.ok
