use Rattle.std.proofs.Common.{◌≡◌, ◌∷◌, ◌+◌, None, Some, drop, sym, ap, ◌∙◌, rules, append-nil, arith}
use Rattle.std.proofs.lemmas.List.{drop_more, drop_all}
use Rattle.json.specs.Find.{get}
use Rattle.json.specs.Value.{value_view}
use Rattle.gob_convert.specs.Made.{concatenation}
use Rattle.gob_convert.specs.declared.convert.ConvertFault.TheVariants.{Bad}
use Rattle.gob_meaning.specs.Formats.{value_before}
use Rattle.gob_formats.specs.Objects.{tree_values, member_found}
use Rattle.gob_formats.proofs.Reading.{value_added}
use Rattle.gob_formats.proofs.Trees.{tree_step, tree_none}
use Rattle.gob_formats.proofs.json_read.object_row.Goals as goal

pub loop-column-preserved : goal.loop-column-preserved
loop-column-preserved c =
    let l = c.loop-column in
    let x = c.column-item.result in
    let j = value_view c.args.tree.now in
    let rest = drop (l.column-index + 1) c.args.columns.now in
    let here : drop l.column-index c.args.columns.now ≡ x ∷ rest =
    drop_more c.args.columns.now l.column-index x (omega arith) ∙ ap (λ y. y ∷ rest) (sym c.column-item.is) in
    let found = c.get-found.ensures ∙ ap (λ n. get n j) c.as_str.ensures in
    let read = ap (member_found x.kind) (sym found) ∙ c.in_ok-member_value.ensures.ok in
    ap (λ vs. concatenation (Some vs) (tree_values rest j)) c.in_ok-push.ensures.items
    ∙ value_added l.values.items _ (tree_values rest j)
    ∙ ap (λ o. concatenation (Some l.values.items) (value_before o (tree_values rest j))) (sym read)
    ∙ ap (concatenation (Some l.values.items)) (sym (tree_step x rest j c.requires.object c.requires.reads))
    ∙ ap (λ cs. concatenation (Some l.values.items) (tree_values cs j)) (sym here)
    ∙ l.invariant

pub returns-in_err-member_value-clause-bad : goal.returns-in_err-member_value-clause-bad
returns-in_err-member_value-clause-bad c =
    let l = c.loop-column in
    let x = c.column-item.result in
    let j = value_view c.args.tree.now in
    let rest = drop (l.column-index + 1) c.args.columns.now in
    let here : drop l.column-index c.args.columns.now ≡ x ∷ rest =
    drop_more c.args.columns.now l.column-index x (omega arith) ∙ ap (λ y. y ∷ rest) (sym c.column-item.is) in
    let bad : c.in_err-member_value.field-0.0 ≡ Bad → tree_values c.args.columns.now j ≡ None =
    λ is_bad. sym l.invariant
    ∙ ap (λ cs. concatenation (Some l.values.items) (tree_values cs j)) here
    ∙ ap (concatenation (Some l.values.items)) (tree_step x rest j c.requires.object c.requires.reads)
    ∙ ap (λ o. concatenation (Some l.values.items) (value_before o (tree_values rest j)))
    (ap (member_found x.kind) (sym (c.get-found.ensures ∙ ap (λ n. get n j) c.as_str.ensures))
    ∙ c.in_err-member_value.ensures.bad is_bad) in
    search (rules, bad)

pub returns-clause-ok : goal.returns-clause-ok
returns-clause-ok c =
    let l = c.loop-column in
    let j = value_view c.args.tree.now in
    sym l.invariant
    ∙ ap (λ cs. concatenation (Some l.values.items) (tree_values cs j))
    (drop_all l.column-index c.args.columns.now (omega arith))
    ∙ ap (concatenation (Some l.values.items)) (tree_none j c.requires.object c.requires.reads)
    ∙ ap (λ vs. Some vs) (append-nil l.values.items ∙ sym c.from_vec.ensures)
