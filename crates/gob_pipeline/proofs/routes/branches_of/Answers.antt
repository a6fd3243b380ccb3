use Rattle.std.proofs.Common.{◌≡◌, ◌++◌, ◌∷◌, [], sym, ap, subst, ◌∙◌, arith, length, length-append, ◌+◌, get_or}
use Rattle.gob_branch.specs.Branches.{BranchValue}
use Rattle.gob_pipeline.specs.Routes.{AreNumberedBranches, specs_of}
use Rattle.gob_pipeline.proofs.Routing.{one_more_branch, specs_more, taken_more}
use Rattle.gob_pipeline.proofs.routes.branches_of.Goals as goal

pub loop-spec-preserved : goal.loop-spec-preserved
loop-spec-preserved c =
    let made = c.in_ok-branch.ensures in
    let pushed = c.in_ok-push.ensures.items in
    let now = c.loop-spec.branches.items in
    let b = c.in_ok-branch.branch in
    let spec = ap (λ (x : BranchValue). x.spec) made in
    record {
      are = subst (AreNumberedBranches c.args.columns.now 0) (sym pushed)
          (one_more_branch c.args.columns.now 0 c.loop-spec.number now b c.loop-spec.invariant.are
          (let n = c.loop-spec.invariant.number in let m = c.loop-spec.invariant.many in omega (arith, n, m))
          (ap (λ (x : BranchValue). x.number) made) (ap (λ (x : BranchValue). x.columns) made));
      specs = ap specs_of pushed ∙ (specs_more now b
          ∙ (ap (λ l. l ++ b.spec ∷ []) c.loop-spec.invariant.specs
          ∙ taken_more c.args.specs.now c.loop-spec.spec-index b.spec c.loop-spec-test.true
          (spec ∙ (c.spec-item.is ∙ ap (λ d. get_or c.args.specs.now c.loop-spec.spec-index d) (sym spec)))));
      number = ap (λ n. n + 1) c.loop-spec.invariant.number;
      many = ap length pushed ∙ (length-append now (b ∷ []) ∙ ap (λ n. n + 1) c.loop-spec.invariant.many);
    }
