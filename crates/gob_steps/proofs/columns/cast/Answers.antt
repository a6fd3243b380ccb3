use Rattle.std.proofs.Common.{◌≡◌, false, Some, None, Ok, refl, ap, sym, ◌∙◌}
use Rattle.gob_plan.specs.declared.steps.StepSpec.TheVariants as step
use Rattle.gob_plan.specs.declared.steps.Refusal.TheVariants.{NoColumn, BadKind, BadValue}
use Rattle.gob_plan.specs.Rows.{kind_of}
use Rattle.gob_meaning.specs.Steps.{each_kind, with_new_kind, columns_after}
use Rattle.gob_steps.proofs.Telling.{told_refused, kind_told, kind_missing, kind_right}
use Rattle.gob_steps.proofs.columns.cast.Goals as goal

pub returns-in_default : goal.returns-in_default
unfolding columns_after
returns-in_default c =
    let name = c.args.column.now in
    let columns = c.args.columns.now in
    let is : kind_of name columns ≡ None = kind_told _ name columns _ None c.as_str.ensures c.kind_of.ensures
    c.in_default.is in
    told_refused (step.Cast name c.args.kind) columns (NoColumn name) c.in_ok-no_column.field-0
    (kind_missing name each_kind (λ k. false) (λ k. with_new_kind name c.args.kind columns) (kind_of name columns) is)
    c.in_ok-no_column.ensures

pub returns : goal.returns
unfolding columns_after
returns c =
    let name = c.args.column.now in
    let columns = c.args.columns.now in
    let k = c.in-Some.field-0 in
    let is : kind_of name columns ≡ Some k =
    kind_told _ name columns _ (Some k) c.as_str.ensures c.kind_of.ensures c.in-Some.is in (
      kind_right name each_kind (λ k. false) (λ k. with_new_kind name c.args.kind columns) (kind_of name columns) k is
          refl
          refl ∙ ap Ok (sym c.in_ok-with_new_kind.ensures),
      tt,
    )
