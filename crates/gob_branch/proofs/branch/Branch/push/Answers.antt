use Rattle.std.proofs.Common.{◌≡◌, [], None, Some, rules, ap, ◌∙◌, subst}
use Rattle.gob_convert.specs.Made.{concatenation}
use Rattle.gob_convert.specs.declared.convert.ConvertFault.TheVariants.{Bad}
use Rattle.gob_meaning.specs.Items.{made_in_branch}
use Rattle.gob_branch.specs.Branches.{BranchValue}
use Rattle.gob_branch.proofs.Rows.{no_steps}
use Rattle.gob_branch.proofs.branch.Branch.push.Goals as goal

pub returns-in_err-push_made-clause-bad : goal.returns-in_err-push_made-clause-bad
returns-in_err-push_made-clause-bad c =
    let b = c.args.self.now in
    let row = c.args.row.now in
    let none : b.spec.steps ≡ [] =
    subst (λ (v : BranchValue). v.spec.steps ≡ []) c.self.view_is (c.is_empty.ensures.0 c.if-is_empty.true) in
    let bad : c.in_err-push_made.field-0.0 ≡ Bad → made_in_branch b.spec b.number b.columns row ≡ None = λ is_bad.
    no_steps b.spec b.number b.columns row none ∙ c.in_err-push_made.ensures.bad is_bad in
    search (rules, bad)

pub returns-then-is_empty-clause-ok : goal.returns-then-is_empty-clause-ok
returns-then-is_empty-clause-ok c =
    let b = c.args.self.now in
    let none : b.spec.steps ≡ [] =
    subst (λ (v : BranchValue). v.spec.steps ≡ []) c.self.view_is (c.is_empty.ensures.0 c.if-is_empty.true) in
    ap (concatenation (Some c.args.items.now)) (no_steps b.spec b.number b.columns c.args.row.now none)
    ∙ c.in_ok-push_made.ensures.ok
