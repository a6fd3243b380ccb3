use Rattle.std.proofs.Common.{◌≡◌, true, false, Ok, ap, sym, ◌∙◌}
use Rattle.gob_plan.specs.declared.steps.StepSpec.TheVariants as step
use Rattle.gob_plan.specs.declared.steps.Refusal.TheVariants.{NoColumn, BadKind, BadValue}
use Rattle.gob_plan.specs.Columns.{is_there}
use Rattle.gob_plan.specs.Rows.{is_of}
use Rattle.gob_meaning.specs.Steps.{is_full, with_new_kind, with_column, columns_after}
use Rattle.gob_steps.proofs.Telling.{told_refused, set_other, set_here, set_full, set_added, full, not_full}
use Rattle.gob_steps.proofs.columns.set.Goals as goal

pub returns-then-not-is_of : goal.returns-then-not-is_of
unfolding columns_after
returns-then-not-is_of c =
    let name = c.args.column.now in
    let columns = c.args.columns.now in
    let k = c.args.kind in
    let v = c.args.value.now in
    let other : is_of k v ≡ false = sym c.is_of.ensures ∙ c.if-not-is_of.true in
    told_refused (step.Set name k v) columns BadValue c.bad_value.result
    (set_other (is_of k v) (is_there name columns) (is_full columns) (with_new_kind name k columns)
    (with_column name k columns) other) c.bad_value.ensures

pub returns-then-is_there : goal.returns-then-is_there
unfolding columns_after
returns-then-is_there c =
    let name = c.args.column.now in
    let columns = c.args.columns.now in
    let k = c.args.kind in
    let v = c.args.value.now in
    let fine : is_of k v ≡ true = sym c.is_of.ensures ∙ c.if-not-is_of.false in
    let here : is_there name columns ≡ true = cc in (
      set_here (is_of k v) (is_there name columns) (is_full columns) (with_new_kind name k columns)
          (with_column name k columns) fine here ∙ ap Ok (sym c.in_ok-with_new_kind.ensures),
      tt,
    )

pub returns-then-len-ge-MOST : goal.returns-then-len-ge-MOST
unfolding columns_after
returns-then-len-ge-MOST c =
    let name = c.args.column.now in
    let columns = c.args.columns.now in
    let k = c.args.kind in
    let v = c.args.value.now in
    let fine : is_of k v ≡ true = sym c.is_of.ensures ∙ c.if-not-is_of.false in
    let away : is_there name columns ≡ false = cc in
    told_refused (step.Set name k v) columns BadValue c.bad_value-then-len-ge-MOST.result
    (set_full (is_of k v) (is_there name columns) (is_full columns) (with_new_kind name k columns)
    (with_column name k columns) fine away
    (full columns c.len.result c.if-len-ge-MOST.true c.len.ensures.len)) c.bad_value-then-len-ge-MOST.ensures

pub returns : goal.returns
unfolding columns_after
returns c =
    let name = c.args.column.now in
    let columns = c.args.columns.now in
    let k = c.args.kind in
    let v = c.args.value.now in
    let fine : is_of k v ≡ true = sym c.is_of.ensures ∙ c.if-not-is_of.false in
    let away : is_there name columns ≡ false = cc in (
      set_added (is_of k v) (is_there name columns) (is_full columns) (with_new_kind name k columns)
          (with_column name k columns) fine away
          (not_full columns c.len.result c.if-len-ge-MOST.false c.len.ensures.len)
          ∙ ap Ok (sym c.in_ok-with_column.ensures),
      tt,
    )
