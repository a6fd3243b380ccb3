use Rattle.std.proofs.Common.{◌≡◌, None, Some, sym, ap, ◌∙◌, rules, append-nil}
use Rattle.gob_convert.specs.Made.{concatenation}
use Rattle.gob_convert.specs.declared.convert.ConvertFault.TheVariants.{Bad}
use Rattle.gob_meaning.specs.Formats.{row_of, json_line_rows}
use Rattle.gob_formats.specs.Objects.{object_values}
use Rattle.gob_formats.proofs.Reading.{row_added}
use Rattle.gob_formats.proofs.Trees.{some_line, empty_line}
use Rattle.gob_formats.proofs.json_read.read_object.Goals as goal

pub returns-then-is_empty-clause-ok : goal.returns-then-is_empty-clause-ok
returns-then-is_empty-clause-ok c =
    ap (concatenation (Some c.args.rows.now.items))
    (empty_line c.args.columns.now c.args.line.now (sym c.is_empty.ensures ∙ c.if-is_empty.true))
    ∙ ap (λ l. Some l) (append-nil c.args.rows.now.items)

pub returns-in_err-row-clause-bad : goal.returns-in_err-row-clause-bad
returns-in_err-row-clause-bad c =
    let bad : c.in_err-row.field-0.0 ≡ Bad → json_line_rows c.args.columns.now c.args.line.now ≡ None =
    λ is_bad. some_line c.args.columns.now c.args.line.now (sym c.is_empty.ensures ∙ c.if-is_empty.false)
    ∙ ap row_of (c.in_err-row.ensures.bad is_bad) in
    search (rules, bad)

pub returns-clause-ok : goal.returns-clause-ok
returns-clause-ok c =
    ap (concatenation (Some c.args.rows.now.items))
    (some_line c.args.columns.now c.args.line.now (sym c.is_empty.ensures ∙ c.if-is_empty.false))
    ∙ row_added c.args.rows.now.items (object_values c.args.columns.now c.args.line.now) c.in_ok-row.row
    c.in_ok-row.ensures.ok
    ∙ ap (λ l. Some l) (sym c.in_ok-push.ensures.items)
