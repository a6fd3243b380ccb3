use Rattle.std.proofs.Common.{None, Some, sym, ap, ◌∙◌, subst}
use Rattle.gob_plan.specs.declared.plan.PlaceSpec.{PlaceSpec}
use Rattle.gob_meaning.specs.Plans.{place_fits}
use Rattle.gob_branch.specs.Branches.{Places}
use Rattle.gob_branch.proofs.Rows.{plain_places, day_places, day_is_there}
use Rattle.gob_branch.proofs.placing.placing.Goals as goal

pub unreachable-requires : goal.unreachable-requires
unreachable-requires c =
    let columns = c.args.columns.now in
    day_is_there c.as_str.result.now c.in-Day.column columns c.as_str.ensures (sym c.in-None.is ∙ c.find.ensures)
    (sym (ap (λ (p : PlaceSpec). place_fits p columns) c.in-Day.is) ∙ c.requires)

pub returns-in-Plain : goal.returns-in-Plain
returns-in-Plain c =
    let columns = c.args.columns.now in
    subst (λ (p : PlaceSpec). Places p columns None) (sym c.in-Plain.is) (plain_places columns)

pub returns-in-Some : goal.returns-in-Some
returns-in-Some c =
    let columns = c.args.columns.now in
    subst (λ (p : PlaceSpec). Places p columns (Some c.new.result)) (sym c.in-Day.is)
    (day_places c.as_str.result.now c.in-Day.column columns c.in-Some.at c.new.result c.as_str.ensures
    (sym c.in-Some.is ∙ c.find.ensures) c.new.ensures)
