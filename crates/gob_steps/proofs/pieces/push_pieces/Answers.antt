use Rattle.std.proofs.Common.{◌≡◌, ◌++◌, get_or, set, map, ap, ◌∙◌}
use Rattle.gob_plan.specs.declared.rows.Value.TheVariants as value
use Rattle.gob_plan.specs.declared.rows.Row.{Row}
use Rattle.gob_meaning.specs.Steps.{pieces_of}
use Rattle.gob_steps.specs.Places.{row_with}
use Rattle.gob_steps.proofs.Cuts.{bare_rows}
use Rattle.gob_steps.proofs.Picking.{taken}
use Rattle.gob_steps.proofs.pieces.push_pieces.Goals as goal

pub returns-in-Ok-clause-ok : goal.returns-in-Ok-clause-ok
returns-in-Ok-clause-ok c =
    let separator = c.args.separator.now in
    let place = c.args.place in
    let row = c.args.row in
    let old = c.args.rows.now.items in
    let bare : Row = record { values = c.from_vec.result } in
    let emptied : bare.values ≡ set row.values place value.Null =
    c.from_vec.ensures ∙ (λ i. set (c.into_vec-values.ensures i) place (c.replace-old.ensures.after i)) in
    let text : get_or row.values place value.Null ≡ value.Text c.in-Text.text =
    taken c.into_vec-values.result.items row.values place c.index_mut.result.now c.replace-old.result
    c.into_vec-values.ensures c.requires.within c.index_mut.ensures.value c.replace-old.ensures.value
    ∙ c.in-Text.is in
    c.in-Ok.ensures.ok
    ∙ ap (λ t. old ++ map (row_with place bare) (pieces_of separator t)) c.as_str.ensures
    ∙ ap (λ rs. old ++ rs)
    (bare_rows separator place row bare (get_or row.values place value.Null) c.in-Text.text emptied text)
