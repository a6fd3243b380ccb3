use Rattle.std.proofs.Common.{◌≡◌, nat_eq, length, true, false, Some, None, Ok, ap, sym, ◌∙◌}
use Rattle.gob_plan.specs.declared.steps.StepSpec.TheVariants as step
use Rattle.gob_plan.specs.declared.steps.Refusal.TheVariants.{NoColumn, BadKind, BadValue}
use Rattle.gob_plan.specs.Rows.{is_text, kind_of}
use Rattle.gob_meaning.specs.Steps.{columns_after}
use Rattle.gob_steps.proofs.Telling.{told_refused, kind_told, kind_missing, kind_other, kind_bad, kind_right}
use Rattle.gob_steps.proofs.Telling.{none_there, some_there}
use Rattle.gob_steps.proofs.columns.explode.Goals as goal

pub returns-in_default : goal.returns-in_default
unfolding columns_after
returns-in_default c =
    let name = c.args.column.now in
    let columns = c.args.columns.now in
    let is : kind_of name columns ≡ None = kind_told _ name columns _ None c.as_str.ensures c.kind_of.ensures
    c.in_default.is in
    told_refused (step.Explode name c.args.separator.now) columns (NoColumn name) c.in_ok-no_column.field-0
    (kind_missing name is_text (λ k. nat_eq (length c.args.separator.now) 0) (λ k. columns) (kind_of name columns) is)
    c.in_ok-no_column.ensures

pub returns-then-not-is_text : goal.returns-then-not-is_text
unfolding columns_after
returns-then-not-is_text c =
    let name = c.args.column.now in
    let columns = c.args.columns.now in
    let k = c.in-Some.kind in
    let is : kind_of name columns ≡ Some k =
    kind_told _ name columns _ (Some k) c.as_str.ensures c.kind_of.ensures c.in-Some.is in
    let other : is_text k ≡ false = sym c.is_text.ensures ∙ c.if-not-is_text.true in
    told_refused (step.Explode name c.args.separator.now) columns (BadKind name) c.in_ok-bad_kind.field-0
    (kind_other name is_text (λ k. nat_eq (length c.args.separator.now) 0) (λ k. columns) (kind_of name columns) k is
    other) c.in_ok-bad_kind.ensures

pub returns-then-len-eq0 : goal.returns-then-len-eq0
unfolding columns_after
returns-then-len-eq0 c =
    let name = c.args.column.now in
    let columns = c.args.columns.now in
    let k = c.in-Some.kind in
    let is : kind_of name columns ≡ Some k =
    kind_told _ name columns _ (Some k) c.as_str.ensures c.kind_of.ensures c.in-Some.is in
    let fine : is_text k ≡ true = sym c.is_text.ensures ∙ c.if-not-is_text.false in
    told_refused (step.Explode name c.args.separator.now) columns BadValue c.bad_value.result
    (kind_bad name is_text (λ k. nat_eq (length c.args.separator.now) 0) (λ k. columns) (kind_of name columns) k is fine
    (none_there c.len.result (length c.args.separator.now) c.if-len-eq0.true c.len.ensures))
    c.bad_value.ensures

pub returns : goal.returns
unfolding columns_after
returns c =
    let name = c.args.column.now in
    let columns = c.args.columns.now in
    let k = c.in-Some.kind in
    let is : kind_of name columns ≡ Some k =
    kind_told _ name columns _ (Some k) c.as_str.ensures c.kind_of.ensures c.in-Some.is in
    let fine : is_text k ≡ true = sym c.is_text.ensures ∙ c.if-not-is_text.false in (
      kind_right name is_text (λ k. nat_eq (length c.args.separator.now) 0) (λ k. columns) (kind_of name columns) k is
          fine
          (some_there c.len.result (length c.args.separator.now) c.if-len-eq0.false c.len.ensures)
          ∙ ap Ok (sym c.in_ok-same.ensures),
      tt,
    )
