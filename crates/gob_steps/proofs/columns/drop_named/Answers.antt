use Rattle.std.proofs.Common.{◌≡◌, ◌||◌, ℕ, nat_eq, length, true, false, Some, None, Ok, option_copied, ap, sym, ◌∙◌}
use Rattle.gob_plan.specs.declared.steps.StepSpec.TheVariants as step
use Rattle.gob_plan.specs.declared.steps.Refusal.TheVariants.{NoColumn, BadKind, BadValue}
use Rattle.gob_meaning.specs.Steps.{first_missing, are_bad_names, columns_but, columns_after}
use Rattle.gob_steps.proofs.Telling.{told_refused, names_missing, names_bad, names_right, none_there, some_there}
use Rattle.gob_steps.proofs.columns.drop_named.Goals as goal

pub returns-in-Some : goal.returns-in-Some
unfolding columns_after
returns-in-Some c =
    let names = c.args.names.now in
    let columns = c.args.columns.now in
    let name = c.in-Some.name.now in
    let is : first_missing names columns ≡ Some name = sym c.in-Some.ensures in
    told_refused (step.Drop names) columns (NoColumn name) c.in_ok-no_column.field-0
    (names_missing (first_missing names columns)
    (are_bad_names names || nat_eq (length (columns_but names columns)) 0) (columns_but names columns) name is)
    c.in_ok-no_column.ensures

pub returns-then-are_bad_names : goal.returns-then-are_bad_names
unfolding columns_after
returns-then-are_bad_names c =
    let names = c.args.names.now in
    let columns = c.args.columns.now in
    let none : first_missing names columns ≡ None = sym c.first_missing.ensures ∙ ap option_copied c.in_default.is in
    let bad : are_bad_names names ≡ true = sym c.are_bad_names.ensures ∙ c.if-are_bad_names.true in
    told_refused (step.Drop names) columns BadValue c.bad_value.result
    (names_bad (first_missing names columns)
    (are_bad_names names || nat_eq (length (columns_but names columns)) 0) (columns_but names columns) none
    (ap (λ b. b || nat_eq (length (columns_but names columns)) 0) bad))
    c.bad_value.ensures

pub returns-then-len-eq0 : goal.returns-then-len-eq0
unfolding columns_after
returns-then-len-eq0 c =
    let names = c.args.names.now in
    let columns = c.args.columns.now in
    let none : first_missing names columns ≡ None = sym c.first_missing.ensures ∙ ap option_copied c.in_default.is in
    let good : are_bad_names names ≡ false = sym c.are_bad_names.ensures ∙ c.if-are_bad_names.false in
    let empty : nat_eq (length (columns_but names columns)) 0 ≡ true =
    none_there c.len.result (length (columns_but names columns)) c.if-len-eq0.true
    (c.len.ensures ∙ ap length c.in_ok-others.ensures) in
    told_refused (step.Drop names) columns BadValue c.bad_value-then-len-eq0.result
    (names_bad (first_missing names columns)
    (are_bad_names names || nat_eq (length (columns_but names columns)) 0) (columns_but names columns) none
    (ap (λ b. b || nat_eq (length (columns_but names columns)) 0) good ∙ empty))
    c.bad_value-then-len-eq0.ensures

pub returns : goal.returns
unfolding columns_after
returns c =
    let names = c.args.names.now in
    let columns = c.args.columns.now in
    let none : first_missing names columns ≡ None = sym c.first_missing.ensures ∙ ap option_copied c.in_default.is in
    let good : are_bad_names names ≡ false = sym c.are_bad_names.ensures ∙ c.if-are_bad_names.false in
    let some : nat_eq (length (columns_but names columns)) 0 ≡ false =
    some_there c.len.result (length (columns_but names columns)) c.if-len-eq0.false
    (c.len.ensures ∙ ap length c.in_ok-others.ensures) in (
      names_right (first_missing names columns)
          (are_bad_names names || nat_eq (length (columns_but names columns)) 0) (columns_but names columns) none
          (ap (λ b. b || nat_eq (length (columns_but names columns)) 0) good ∙ some)
          ∙ ap Ok (sym c.in_ok-others.ensures),
      tt,
    )
