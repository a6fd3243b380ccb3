use Rattle.std.proofs.Common.{◌≡◌, true, false, sym, ap, ◌∙◌}
use Rattle.gob_plan.specs.Columns.{is_columns}
use Rattle.gob_meaning.proofs.StepRows.{step_keeps}
use Rattle.gob_steps.proofs.step.Step.new.Goals as goal

pub unreachable-requires : goal.unreachable-requires
unreachable-requires c =
    let list = c.in_ok-list.list in
    let proper : is_columns list ≡ true =
    (step_keeps c.args.spec c.args.columns.now list).proper c.place_named-place.ensures.proper c.in_ok-list.ensures.0 in
    let both : true ≡ false = sym proper ∙ c.in-Err.ensures.1 in cc
