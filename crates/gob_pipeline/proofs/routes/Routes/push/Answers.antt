use Rattle.std.proofs.Common.{◌≡◌, ◌+◌, List, Some, append-nil, option_copied, refl, sym, ap, subst, ◌∙◌, arith}
use Rattle.gob_convert.specs.Made.{concatenation}
use Rattle.gob_pipeline.specs.contracts.routes.Routes.{the_view}
use Rattle.std.specs.Option.{is_some}
use Rattle.gob_plan.specs.declared.rows.Column.{Column}
use Rattle.gob_branch.specs.Branches.{BranchValue}
use Rattle.gob_pipeline.specs.Routes.{AreNumberedBranches, RoutesValue, RowSent, specs_of, waiting_makes}
use Rattle.gob_pipeline.proofs.Routing.{routed_all, sent_all, sent_more, sent_past}
use Rattle.gob_pipeline.proofs.routes.Routes.push.Goals as goal
use Rattle.gob_pipeline.proofs.routes.Routes.push.Goals.{then-takes+in_ok-push_lent, else-takes}

-- the branches as the loop sees them
record Lent (r : RoutesValue) (bs : List BranchValue) : Type 0 where
  are : AreNumberedBranches r.columns 0 bs
  specs : specs_of bs ≡ r.branches

lent : (r inner : RoutesValue) (own bs : List BranchValue) → inner ≡ r → specs_of own ≡ inner.branches
    → AreNumberedBranches inner.columns 0 own → bs ≡ own → Lent r bs
lent r inner own bs same specs are value = record {
  are = subst (AreNumberedBranches r.columns 0) (sym value)
      (subst (λ (cs : List Column). AreNumberedBranches cs 0 own) (ap (λ (x : RoutesValue). x.columns) same) are);
  specs = ap specs_of value ∙ (specs ∙ ap (λ (x : RoutesValue). x.branches) same);
}

pub loop-branch-preserved : goal.loop-branch-preserved
loop-branch-preserved c =
    let r = c.args.self.now in
    let bs = c.as_slice-branch-items.result.now in
    let l = lent r (the_view c.self.inside) c.self.inside.branches.items bs c.self.view_is refl c.self.invariant.0
    c.as_slice-branch-items.ensures.value in
    let row = c.args.row in
    let old = c.args.items.now in
    let now = c.loop-branch.items in
    let i = c.loop-branch.branch-index in
    elim c.if-takes.branch [
      | then-takes+in_ok-push_lent w ↦
          subst (λ o. RowSent r row old c.if-takes.items (option_copied o) (i + 1)) (sym w.waiting-is)
          (subst (λ ms. RowSent r row old ms (Some c.branch-item.result) (i + 1)) (sym w.items-is)
          (sent_more r row old now w.push_lent.new.items bs (option_copied c.loop-branch.waiting) i
          c.branch-item.result c.loop-branch.invariant l.are l.specs c.loop-branch-test.true c.branch-item.is
          c.requires (sym c.takes.ensures ∙ w.if-takes.true) w.in_ok-push_lent.ensures.ok))
      | else-takes w ↦
          subst (λ o. RowSent r row old c.if-takes.items (option_copied o) (i + 1)) (sym w.waiting-is)
          (subst (λ ms. RowSent r row old ms (option_copied c.loop-branch.waiting) (i + 1)) (sym w.items-is)
          (sent_past r row old now bs (option_copied c.loop-branch.waiting) i c.branch-item.result
          c.loop-branch.invariant l.are l.specs c.loop-branch-test.true c.branch-item.is
          (sym c.takes.ensures ∙ w.if-takes.false)))
    ]

pub returns-in_ok-push_owned-in-Some-clause-ok : goal.returns-in_ok-push_owned-in-Some-clause-ok
returns-in_ok-push_owned-in-Some-clause-ok c =
    let r = c.args.self.now in
    let bs = c.as_slice-branch-items.result.now in
    let l = lent r (the_view c.self.inside) c.self.inside.branches.items bs c.self.view_is refl c.self.invariant.0
    c.as_slice-branch-items.ensures.value in
    let row = c.args.row in
    let now = c.loop-branch.items in
    let over = c.loop-branch-test.false in
    sent_all r row c.args.items.now now bs (option_copied c.loop-branch.waiting) c.loop-branch.branch-index
    c.loop-branch.invariant l.specs (omega (arith, over))
    ∙ ap (λ o. concatenation (Some now) (waiting_makes (option_copied o) row)) c.in-Some.is
    ∙ c.in_ok-push_owned-in-Some.ensures.ok

pub returns-in_ok-push_owned-in-Some-clause-routed : goal.returns-in_ok-push_owned-in-Some-clause-routed
returns-in_ok-push_owned-in-Some-clause-routed c =
    let r = c.args.self.now in
    let bs = c.as_slice-branch-items.result.now in
    let l = lent r (the_view c.self.inside) c.self.inside.branches.items bs c.self.view_is refl c.self.invariant.0
    c.as_slice-branch-items.ensures.value in
    let over = c.loop-branch-test.false in
    sym (ap (λ o. is_some (option_copied o)) c.in-Some.is)
    ∙ routed_all r c.args.row c.args.items.now c.loop-branch.items bs (option_copied c.loop-branch.waiting)
    c.loop-branch.branch-index c.loop-branch.invariant l.specs (omega (arith, over))

pub returns-in-None-clause-ok : goal.returns-in-None-clause-ok
returns-in-None-clause-ok c =
    let r = c.args.self.now in
    let bs = c.as_slice-branch-items.result.now in
    let l = lent r (the_view c.self.inside) c.self.inside.branches.items bs c.self.view_is refl c.self.invariant.0
    c.as_slice-branch-items.ensures.value in
    let row = c.args.row in
    let now = c.loop-branch.items in
    let over = c.loop-branch-test.false in
    sent_all r row c.args.items.now now bs (option_copied c.loop-branch.waiting) c.loop-branch.branch-index
    c.loop-branch.invariant l.specs (omega (arith, over))
    ∙ ap (λ o. concatenation (Some now) (waiting_makes (option_copied o) row)) c.in-None.is ∙ ap Some (append-nil now)

pub returns-in-None-clause-routed : goal.returns-in-None-clause-routed
returns-in-None-clause-routed c =
    let r = c.args.self.now in
    let bs = c.as_slice-branch-items.result.now in
    let l = lent r (the_view c.self.inside) c.self.inside.branches.items bs c.self.view_is refl c.self.invariant.0
    c.as_slice-branch-items.ensures.value in
    let over = c.loop-branch-test.false in
    sym (ap (λ o. is_some (option_copied o)) c.in-None.is)
    ∙ routed_all r c.args.row c.args.items.now c.loop-branch.items bs (option_copied c.loop-branch.waiting)
    c.loop-branch.branch-index c.loop-branch.invariant l.specs (omega (arith, over))
