use Rattle.std.proofs.Common.{◌≡◌, not, true, false, Some, None, Ok, ap, sym, ◌∙◌}
use Rattle.gob_plan.specs.declared.steps.StepSpec.TheVariants as step
use Rattle.gob_plan.specs.declared.steps.Refusal.TheVariants.{NoColumn, BadKind, BadValue}
use Rattle.gob_plan.specs.Rows.{kind_of}
use Rattle.gob_plan.specs.Tests.{check_takes, check_is_right}
use Rattle.gob_meaning.specs.Steps.{columns_after}
use Rattle.gob_steps.proofs.Telling.{told_refused, kind_told, kind_missing, kind_other, kind_bad, kind_right}
use Rattle.gob_steps.proofs.columns.select.Goals as goal

pub returns-in_default : goal.returns-in_default
unfolding columns_after
returns-in_default c =
    let name = c.args.test.now.column in
    let columns = c.args.columns.now in
    let is : kind_of name columns ≡ None = kind_told _ name columns _ None c.as_str.ensures c.kind_of.ensures
    c.in_default.is in
    told_refused (step.Where c.args.test.now) columns (NoColumn name) c.in_ok-no_column.field-0
    (kind_missing name (check_takes c.args.test.now.check) (λ k. not (check_is_right c.args.test.now.check k))
    (λ k. columns) (kind_of name columns) is) c.in_ok-no_column.ensures

pub returns-then-not-takes : goal.returns-then-not-takes
unfolding columns_after
returns-then-not-takes c =
    let name = c.args.test.now.column in
    let columns = c.args.columns.now in
    let k = c.in-Some.kind in
    let is : kind_of name columns ≡ Some k =
    kind_told _ name columns _ (Some k) c.as_str.ensures c.kind_of.ensures c.in-Some.is in
    let check = c.args.test.now.check in
    let other : check_takes check k ≡ false = sym c.takes.ensures ∙ c.if-not-takes.true in
    told_refused (step.Where c.args.test.now) columns (BadKind name) c.in_ok-bad_kind.field-0
    (kind_other name (check_takes check) (λ k. not (check_is_right check k)) (λ k. columns) (kind_of name columns) k is
    other) c.in_ok-bad_kind.ensures

pub returns-then-not-is_right : goal.returns-then-not-is_right
unfolding columns_after
returns-then-not-is_right c =
    let name = c.args.test.now.column in
    let columns = c.args.columns.now in
    let k = c.in-Some.kind in
    let is : kind_of name columns ≡ Some k =
    kind_told _ name columns _ (Some k) c.as_str.ensures c.kind_of.ensures c.in-Some.is in
    let check = c.args.test.now.check in
    let fine : check_takes check k ≡ true = sym c.takes.ensures ∙ c.if-not-takes.false in
    let wrong : check_is_right check k ≡ false = sym c.is_right.ensures ∙ c.if-not-is_right.true in
    told_refused (step.Where c.args.test.now) columns BadValue c.bad_value.result
    (kind_bad name (check_takes check) (λ k. not (check_is_right check k)) (λ k. columns) (kind_of name columns) k is
    fine (ap not wrong)) c.bad_value.ensures

pub returns : goal.returns
unfolding columns_after
returns c =
    let name = c.args.test.now.column in
    let columns = c.args.columns.now in
    let k = c.in-Some.kind in
    let is : kind_of name columns ≡ Some k =
    kind_told _ name columns _ (Some k) c.as_str.ensures c.kind_of.ensures c.in-Some.is in
    let check = c.args.test.now.check in
    let fine : check_takes check k ≡ true = sym c.takes.ensures ∙ c.if-not-takes.false in
    let right : check_is_right check k ≡ true = sym c.is_right.ensures ∙ c.if-not-is_right.false in (
      kind_right name (check_takes check) (λ k. not (check_is_right check k)) (λ k. columns) (kind_of name columns) k is
          fine (ap not right) ∙ ap Ok (sym c.in_ok-same.ensures),
      tt,
    )
