use Rattle.std.proofs.Common.{◌≡◌, unwrap_or, get_or, ap, sym, subst, ◌∙◌}
use Rattle.std.proofs.lemmas.Option.{get_or_from_slice_get, unwrap_or-slice_get}
use Rattle.gob_plan.specs.declared.rows.Value.{Value}
use Rattle.gob_plan.specs.declared.rows.Value.TheVariants as value
use Rattle.gob_meaning.specs.Days.{day_folder}
use Rattle.gob_timeplace.specs.Folders.{IsDayOf}
use Rattle.gob_timeplace.proofs.day.date_in.Goals as goal

pub returns-in-Some : goal.returns-in-Some
returns-in-Some c =
    subst (λ (v : Value). IsDayOf v c.date_of_value.result)
    (sym (get_or_from_slice_get c.args.row.now.values c.args.column c.in-Some.value.now value.Null
    (sym c.in-Some.ensures)))
    c.date_of_value.ensures

pub returns-in-None : goal.returns-in-None
returns-in-None c =
    ap day_folder (sym (unwrap_or-slice_get c.args.row.now.values c.args.column value.Null)
    ∙ ap (λ o. unwrap_or o value.Null) (sym c.in-None.ensures))
