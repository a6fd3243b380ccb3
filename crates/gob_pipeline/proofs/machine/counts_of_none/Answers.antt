use Rattle.std.proofs.Common.{◌≡◌, ◌≤◌, ◌+◌, ◌++◌, [], ◌∷◌, List, suc, length, length-append, sym, ap, ◌∙◌, arith}
use Rattle.gob_plan.specs.declared.units.BranchCounts.{BranchCounts}
use Rattle.gob_pipeline.specs.Taking.{none_counted}
use Rattle.gob_pipeline.proofs.Feeding.{none_more}
use Rattle.gob_pipeline.proofs.machine.counts_of_none.Goals as goal

pub branches-preserved : goal.branches-preserved
branches-preserved c =
    let one : BranchCounts = record { written = 0; errors = 0; optional = 0 } in
    let before = c.branches.counts in
    let grown = c.in_ok-push.ensures.ok in
    let long : length c.push.new.self ≡ length before + 1 = ap length grown ∙ length-append before (one ∷ []) in
    let next : suc (length before) ≡ length c.push.new.self = omega (arith, long) in
    record {
      few = omega (arith, long);
      made = grown ∙ ap (λ (bs : List BranchCounts). bs ++ one ∷ []) c.branches.invariant.made
          ∙ none_more (length before)
          ∙ ap none_counted next;
    }
