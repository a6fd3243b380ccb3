use Rattle.std.proofs.Common.{◌≡◌, ◌||◌, true, false, Some, None, Ok, refl, ap, sym, ◌∙◌}
use Rattle.gob_plan.specs.declared.steps.StepSpec.TheVariants as step
use Rattle.gob_plan.specs.declared.steps.Refusal.TheVariants.{NoColumn, BadKind, BadValue}
use Rattle.gob_plan.specs.Columns.{is_there}
use Rattle.gob_plan.specs.Rows.{kind_of}
use Rattle.gob_meaning.specs.Steps.{each_kind, is_full, with_column, columns_after}
use Rattle.gob_steps.proofs.Telling.{told_refused, kind_told, kind_missing, kind_bad, kind_right, full, not_full}
use Rattle.gob_steps.proofs.columns.copy.Goals as goal

pub returns-in_default : goal.returns-in_default
unfolding columns_after
returns-in_default c =
    let name = c.args.from.now in
    let columns = c.args.columns.now in
    let is : kind_of name columns ≡ None = kind_told _ name columns _ None c.as_str.ensures c.kind_of.ensures
    c.in_default.is in
    told_refused (step.Copy name c.args.to.now) columns (NoColumn name) c.in_ok-no_column.field-0
    (kind_missing name each_kind (λ k. is_there c.args.to.now columns || is_full columns)
    (λ k. with_column c.args.to.now k columns) (kind_of name columns) is) c.in_ok-no_column.ensures

pub returns-then-is_there : goal.returns-then-is_there
unfolding columns_after
returns-then-is_there c =
    let name = c.args.from.now in
    let columns = c.args.columns.now in
    let k = c.in-Some.kind in
    let is : kind_of name columns ≡ Some k =
    kind_told _ name columns _ (Some k) c.as_str.ensures c.kind_of.ensures c.in-Some.is in
    let bad : is_there c.args.to.now columns ≡ true = cc in
    told_refused (step.Copy name c.args.to.now) columns BadValue c.bad_value.result
    (kind_bad name each_kind (λ k. is_there c.args.to.now columns || is_full columns)
    (λ k. with_column c.args.to.now k columns) (kind_of name columns) k is refl (ap (λ b. b || is_full columns) bad))
    c.bad_value.ensures

pub returns-then-len-ge-MOST : goal.returns-then-len-ge-MOST
unfolding columns_after
returns-then-len-ge-MOST c =
    let name = c.args.from.now in
    let columns = c.args.columns.now in
    let k = c.in-Some.kind in
    let is : kind_of name columns ≡ Some k =
    kind_told _ name columns _ (Some k) c.as_str.ensures c.kind_of.ensures c.in-Some.is in
    let away : is_there c.args.to.now columns ≡ false = cc in
    told_refused (step.Copy name c.args.to.now) columns BadValue c.bad_value-then-len-ge-MOST.result
    (kind_bad name each_kind (λ k. is_there c.args.to.now columns || is_full columns)
    (λ k. with_column c.args.to.now k columns) (kind_of name columns) k is refl
    (ap (λ b. b || is_full columns) away ∙ full columns c.len.result c.if-len-ge-MOST.true c.len.ensures.len))
    c.bad_value-then-len-ge-MOST.ensures

pub returns : goal.returns
unfolding columns_after
returns c =
    let name = c.args.from.now in
    let columns = c.args.columns.now in
    let k = c.in-Some.kind in
    let is : kind_of name columns ≡ Some k =
    kind_told _ name columns _ (Some k) c.as_str.ensures c.kind_of.ensures c.in-Some.is in
    let away : is_there c.args.to.now columns ≡ false = cc in (
      kind_right name each_kind (λ k. is_there c.args.to.now columns || is_full columns)
          (λ k. with_column c.args.to.now k columns) (kind_of name columns) k is refl
          (ap (λ b. b || is_full columns) away ∙ not_full columns c.len.result c.if-len-ge-MOST.false c.len.ensures.len)
          ∙ ap Ok (sym c.in_ok-with_column.ensures),
      tt,
    )
