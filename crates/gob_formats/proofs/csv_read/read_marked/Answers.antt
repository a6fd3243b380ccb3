use Rattle.std.proofs.Common.{◌≡◌, [], ◌∷◌, ◌+◌, None, Some, drop, sym, ap, ◌∙◌, rules, append-nil, arith, get_or}
use Rattle.std.proofs.lemmas.List.{drop_more, drop_all}
use Rattle.csv.specs.Records.{fields_of}
use Rattle.csv.specs.declared.parser.State.TheVariants as st
use Rattle.gob_convert.specs.Made.{concatenation}
use Rattle.gob_convert.specs.declared.convert.ConvertFault.TheVariants.{Bad}
use Rattle.gob_meaning.specs.Formats.{row_of}
use Rattle.gob_formats.specs.Splits.{code_state}
use Rattle.gob_formats.specs.Rows.{rows_on, rows_after}
use Rattle.gob_formats.proofs.Kept.{keeps_then}
use Rattle.gob_formats.proofs.Reading.{no_rows, rows_step, rows_at_end, no_rows_at_end}
use Rattle.gob_formats.proofs.csv_read.read_marked.Goals as goal

pub loop-b-preserved : goal.loop-b-preserved
loop-b-preserved c =
    let l = c.loop-b in
    let x = get_or c.args.text.now l.b-index 0 in
    let rest = drop (l.b-index + 1) c.args.text.now in
    let here : drop l.b-index c.args.text.now ≡ x ∷ rest =
    drop_more c.args.text.now l.b-index 0 (omega arith) in
    let fields = fields_of l.draft.fields in
    let field = l.draft.field.items in
    let before = ap (rows_on c.args.columns.now (code_state l.state) fields field) here
    ∙ rows_step c.args.columns.now (code_state l.state) fields field x rest in
    let stepped = ap (λ p. rows_after c.args.columns.now p.0 p.1 fields field x rest) c.step-next.ensures in (
      c.in_ok-take.ensures.ok (code_state c.step-next.result.0) rest
          ∙ ap (concatenation (Some l.rows.items)) (stepped ∙ sym before) ∙ l.invariant.0,
      c.in_ok-take.ensures.none,
      keeps_then _ _ _ l.invariant.2 c.take.ensures.keeps,
    )

pub returns-in_err-take-clause-bad : goal.returns-in_err-take-clause-bad
returns-in_err-take-clause-bad c =
    let l = c.loop-b in
    let x = get_or c.args.text.now l.b-index 0 in
    let rest = drop (l.b-index + 1) c.args.text.now in
    let here : drop l.b-index c.args.text.now ≡ x ∷ rest =
    drop_more c.args.text.now l.b-index 0 (omega arith) in
    let fields = fields_of l.draft.fields in
    let field = l.draft.field.items in
    let before = ap (rows_on c.args.columns.now (code_state l.state) fields field) here
    ∙ rows_step c.args.columns.now (code_state l.state) fields field x rest in
    let stepped = ap (λ p. rows_after c.args.columns.now p.0 p.1 fields field x rest) c.step-next.ensures in
    let bad : c.in_err-take.field-0.0 ≡ Bad → rows_on c.args.columns.now st.StartRecord [] [] c.args.text.now ≡ None =
    λ is_bad. no_rows c.args.rows.now.items _ (sym l.invariant.0
    ∙ ap (concatenation (Some l.rows.items))
    (before ∙ sym stepped ∙ c.in_err-take.ensures.bad is_bad (code_state c.step-next.result.0) rest)) in
    search (rules, bad)

pub returns-then-not-ends_at_end-clause-ok : goal.returns-then-not-ends_at_end-clause-ok
returns-then-not-ends_at_end-clause-ok c =
    let l = c.loop-b in
    let over = drop_all l.b-index c.args.text.now (omega arith) in
    sym l.invariant.0
    ∙ ap (concatenation (Some l.rows.items))
    (ap (rows_on c.args.columns.now (code_state l.state) (fields_of l.draft.fields) l.draft.field.items) over
    ∙ no_rows_at_end c.args.columns.now (code_state l.state) (fields_of l.draft.fields) l.draft.field.items (cc))
    ∙ ap (λ rows. Some rows) (append-nil l.rows.items)

pub returns-clause-ok : goal.returns-clause-ok
returns-clause-ok c =
    let l = c.loop-b in
    let over = drop_all l.b-index c.args.text.now (omega arith) in
    sym l.invariant.0
    ∙ ap (concatenation (Some l.rows.items))
    (ap (rows_on c.args.columns.now (code_state l.state) (fields_of l.draft.fields) l.draft.field.items) over
    ∙ rows_at_end c.args.columns.now (code_state l.state) (fields_of l.draft.fields) l.draft.field.items (cc))
    ∙ c.in_ok-end_record.ensures.ok

pub returns-in_err-end_record-clause-bad : goal.returns-in_err-end_record-clause-bad
returns-in_err-end_record-clause-bad c =
    let l = c.loop-b in
    let over = drop_all l.b-index c.args.text.now (omega arith) in
    let bad : c.in_err-end_record.field-0.0 ≡ Bad
    → rows_on c.args.columns.now st.StartRecord [] [] c.args.text.now ≡ None =
    λ is_bad. no_rows c.args.rows.now.items _ (sym l.invariant.0
    ∙ ap (concatenation (Some l.rows.items))
    (ap (rows_on c.args.columns.now (code_state l.state) (fields_of l.draft.fields) l.draft.field.items) over
    ∙ rows_at_end c.args.columns.now (code_state l.state) (fields_of l.draft.fields) l.draft.field.items (cc)
    ∙ ap row_of (c.in_err-end_record.ensures.bad is_bad))) in
    search (rules, bad)
