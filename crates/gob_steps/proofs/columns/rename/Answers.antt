use Rattle.std.proofs.Common.{◌≡◌, true, false, Some, None, Ok, refl, ap, sym, ◌∙◌}
use Rattle.gob_plan.specs.declared.steps.StepSpec.TheVariants as step
use Rattle.gob_plan.specs.declared.steps.Refusal.TheVariants.{NoColumn, BadKind, BadValue}
use Rattle.gob_plan.specs.Columns.{is_there}
use Rattle.gob_plan.specs.Rows.{kind_of}
use Rattle.gob_meaning.specs.Steps.{each_kind, with_new_name, columns_after}
use Rattle.gob_steps.proofs.Telling.{told_refused, kind_told, kind_missing, kind_bad, kind_right}
use Rattle.gob_steps.proofs.columns.rename.Goals as goal

pub returns-in_default : goal.returns-in_default
unfolding columns_after
returns-in_default c =
    let name = c.args.from.now in
    let columns = c.args.columns.now in
    let is : kind_of name columns ≡ None = kind_told _ name columns _ None c.as_str.ensures c.kind_of.ensures
    c.in_default.is in
    told_refused (step.Rename name c.args.to.now) columns (NoColumn name) c.in_ok-no_column.field-0
    (kind_missing name each_kind (λ k. is_there c.args.to.now columns) (λ k. with_new_name name c.args.to.now columns)
    (kind_of name columns) is) c.in_ok-no_column.ensures

pub returns-then-is_there : goal.returns-then-is_there
unfolding columns_after
returns-then-is_there c =
    let name = c.args.from.now in
    let columns = c.args.columns.now in
    let k = c.in-Some.field-0 in
    let is : kind_of name columns ≡ Some k =
    kind_told _ name columns _ (Some k) c.as_str.ensures c.kind_of.ensures c.in-Some.is in
    let bad : is_there c.args.to.now columns ≡ true = cc in
    told_refused (step.Rename name c.args.to.now) columns BadValue c.bad_value.result
    (kind_bad name each_kind (λ k. is_there c.args.to.now columns) (λ k. with_new_name name c.args.to.now columns)
    (kind_of name columns) k is refl bad) c.bad_value.ensures

pub returns : goal.returns
unfolding columns_after
returns c =
    let name = c.args.from.now in
    let columns = c.args.columns.now in
    let k = c.in-Some.field-0 in
    let is : kind_of name columns ≡ Some k =
    kind_told _ name columns _ (Some k) c.as_str.ensures c.kind_of.ensures c.in-Some.is in
    let good : is_there c.args.to.now columns ≡ false = cc in (
      kind_right name each_kind (λ k. is_there c.args.to.now columns) (λ k. with_new_name name c.args.to.now columns)
          (kind_of name columns) k is refl good ∙ ap Ok (sym c.in_ok-with_new_name.ensures),
      tt,
    )
