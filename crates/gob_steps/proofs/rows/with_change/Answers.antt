use Rattle.std.proofs.Common.{◌≡◌, List, get_or, set, option_map, Some, sym, ap, ◌∙◌}
use Rattle.std.proofs.lemmas.List.{set-set}
use Rattle.gob_plan.specs.declared.rows.Value.{Value}
use Rattle.gob_plan.specs.declared.rows.Value.TheVariants as value
use Rattle.gob_steps.specs.Changes.{value_change_of}
use Rattle.gob_steps.proofs.Picking.{taken}
use Rattle.gob_steps.proofs.rows.with_change.Goals as goal

pub returns-clause-ok : goal.returns-clause-ok
returns-clause-ok c =
    let values = c.args.row.values in
    let place = c.args.place in
    let made = c.in_ok-values.field-0 in
    let put : Value → List Value = λ w. set values place w in
    let old : get_or values place value.Null ≡ c.replace-old.result =
    taken c.into_vec-values.result.items values place c.index_mut.result.now c.replace-old.result
    c.into_vec-values.ensures c.requires c.index_mut.ensures.value c.replace-old.ensures.value in
    ap (option_map put) (ap (value_change_of c.args.spec.now) old ∙ c.in_ok-values.ensures.ok)
    ∙ ap Some (sym (c.from_vec.ensures
    ∙ set-set c.into_vec-values.result.items place c.replace-old.new.dest made
    ∙ ap (λ vs. set vs place made) c.into_vec-values.ensures))
