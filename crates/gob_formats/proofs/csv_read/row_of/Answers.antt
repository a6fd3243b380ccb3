use Rattle.std.proofs.Common.{◌≡◌, ◌∷◌, ◌+◌, None, Some, List, ℕ, drop, sym, ap, ap₂, ◌∙◌, rules, arith}
use Rattle.std.proofs.lemmas.List.{drop_more}
use Rattle.csv.specs.Records.{fields_of}
use Rattle.gob_convert.specs.Made.{concatenation}
use Rattle.gob_convert.specs.declared.convert.ConvertFault.TheVariants.{Bad}
use Rattle.gob_plan.specs.declared.rows.Column.{Column}
use Rattle.gob_meaning.specs.Formats.{field_values}
use Rattle.gob_formats.proofs.Reading.{field_added, bad_field, other_length, field_here, field_missing}
use Rattle.gob_formats.proofs.csv_read.row_of.Goals as goal

pub returns-then-len-columns-clause-bad : goal.returns-then-len-columns-clause-bad
returns-then-len-columns-clause-bad c = λ _.
    other_length c.args.columns.now (fields_of c.args.fields.now) (λ same. c.if-len-columns.true (c.len.ensures ∙ same))

pub returns-in_default-clause-bad : goal.returns-in_default-clause-bad
returns-in_default-clause-bad c =
    let over = field_missing (fields_of c.args.fields.now) c.loop-i.i (sym c.in_default.ensures.value) in
    let as_many = c.len.ensures in
    absurd (omega arith)

pub returns-in_err-read_field-clause-bad : goal.returns-in_err-read_field-clause-bad
returns-in_err-read_field-clause-bad c =
    let l = c.loop-i in
    let x = c.index-columns-i.result in
    let cs = c.args.columns.now in
    let fs = fields_of c.args.fields.now in
    let here : drop l.i cs ≡ x ∷ drop (l.i + 1) cs =
    drop_more cs l.i x (omega arith) ∙ ap (λ y. y ∷ drop (l.i + 1) cs) (sym c.index-columns-i.is) in
    let there = field_here fs l.i c.in-Some.field.now (sym c.in-Some.ensures.value) in
    let bad : c.in_err-read_field.field-0.0 ≡ Bad → field_values cs fs ≡ None =
    λ is_bad. sym l.invariant
    ∙ ap₂ (λ (some : List Column) (more : List (List ℕ)). concatenation (Some l.values.items) (field_values some more))
    here there
    ∙ bad_field l.values.items x (drop (l.i + 1) cs) c.in-Some.field.now (drop (l.i + 1) fs)
    (c.in_err-read_field.ensures.bad is_bad) in
    search (rules, bad)

pub loop-i-preserved : goal.loop-i-preserved
loop-i-preserved c =
    let l = c.loop-i in
    let x = c.index-columns-i.result in
    let cs = c.args.columns.now in
    let fs = fields_of c.args.fields.now in
    let here : drop l.i cs ≡ x ∷ drop (l.i + 1) cs =
    drop_more cs l.i x (omega arith) ∙ ap (λ y. y ∷ drop (l.i + 1) cs) (sym c.index-columns-i.is) in
    let there = field_here fs l.i c.in-Some.field.now (sym c.in-Some.ensures.value) in
    ap (λ vs. concatenation (Some vs) (field_values (drop (l.i + 1) cs) (drop (l.i + 1) fs))) c.in_ok-push.ensures.items
    ∙ field_added l.values.items x (drop (l.i + 1) cs) c.in-Some.field.now (drop (l.i + 1) fs) _
    c.in_ok-read_field.ensures.ok
    ∙ sym (ap₂ (λ (some : List Column) (more : List (List ℕ)).
    concatenation (Some l.values.items) (field_values some more)) here there)
    ∙ l.invariant
