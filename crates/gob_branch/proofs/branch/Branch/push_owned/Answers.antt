use Rattle.std.proofs.Common.{◌≡◌, [], None, Some, rules, sym, ap, ◌∙◌, subst}
use Rattle.gob_convert.specs.Made.{concatenation, then_each}
use Rattle.gob_convert.specs.declared.convert.ConvertFault.TheVariants.{Bad}
use Rattle.gob_meaning.specs.Items.{made_in_branch}
use Rattle.gob_meaning.specs.Steps.{chain_rows}
use Rattle.gob_branch.specs.Branches.{BranchValue, made_of_row}
use Rattle.gob_branch.proofs.Rows.{no_steps, through_steps}
use Rattle.gob_branch.proofs.branch.Branch.push_owned.Goals as goal

pub returns-in_err-push_made-clause-bad : goal.returns-in_err-push_made-clause-bad
returns-in_err-push_made-clause-bad c =
    let b = c.args.self.now in
    let row = c.args.row in
    let none : b.spec.steps ≡ [] =
    subst (λ (v : BranchValue). v.spec.steps ≡ []) c.self.view_is (c.is_empty.ensures.0 c.if-is_empty.true) in
    let bad : c.in_err-push_made.field-0.0 ≡ Bad → made_in_branch b.spec b.number b.columns row ≡ None = λ is_bad.
    no_steps b.spec b.number b.columns row none ∙ c.in_err-push_made.ensures.bad is_bad in
    search (rules, bad)

pub returns-then-is_empty-clause-ok : goal.returns-then-is_empty-clause-ok
returns-then-is_empty-clause-ok c =
    let b = c.args.self.now in
    let none : b.spec.steps ≡ [] =
    subst (λ (v : BranchValue). v.spec.steps ≡ []) c.self.view_is (c.is_empty.ensures.0 c.if-is_empty.true) in
    ap (concatenation (Some c.args.items.now)) (no_steps b.spec b.number b.columns c.args.row none)
    ∙ c.in_ok-push_made.ensures.ok

pub returns-in_err-rows-clause-bad : goal.returns-in_err-rows-clause-bad
returns-in_err-rows-clause-bad c =
    let b = c.args.self.now in
    let row = c.args.row in
    let bad : c.in_err-rows.field-0.0 ≡ Bad → made_in_branch b.spec b.number b.columns row ≡ None = λ is_bad.
    through_steps b.spec b.number b.columns row None
    (subst (λ (v : BranchValue). chain_rows v.spec.steps v.columns row ≡ None) c.self.view_is
    (c.in_err-rows.ensures.bad is_bad)) in
    search (rules, bad)

pub returns-in_err-push_each-clause-bad : goal.returns-in_err-push_each-clause-bad
returns-in_err-push_each-clause-bad c =
    let b = c.args.self.now in
    let row = c.args.row in
    let rows = c.in_ok-rows.rows.items in
    let made = subst (λ (v : BranchValue). chain_rows v.spec.steps v.columns row ≡ Some rows) c.self.view_is
    c.in_ok-rows.ensures.ok in
    let bad : c.in_err-push_each.field-0.0 ≡ Bad → made_in_branch b.spec b.number b.columns row ≡ None = λ is_bad.
    through_steps b.spec b.number b.columns row (Some rows) made
    ∙ ap (λ rs. then_each (made_of_row b) (Some rs)) (sym c.as_slice.ensures.value)
    ∙ c.in_err-push_each.ensures.bad is_bad in
    search (rules, bad)

pub returns-clause-ok : goal.returns-clause-ok
returns-clause-ok c =
    let b = c.args.self.now in
    let row = c.args.row in
    let rows = c.in_ok-rows.rows.items in
    let made = subst (λ (v : BranchValue). chain_rows v.spec.steps v.columns row ≡ Some rows) c.self.view_is
    c.in_ok-rows.ensures.ok in
    ap (concatenation (Some c.args.items.now)) (through_steps b.spec b.number b.columns row (Some rows) made
    ∙ ap (λ rs. then_each (made_of_row b) (Some rs)) (sym c.as_slice.ensures.value))
    ∙ c.in_ok-push_each.ensures.ok
