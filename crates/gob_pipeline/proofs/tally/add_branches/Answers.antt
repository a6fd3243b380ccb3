use Rattle.std.proofs.Common.{◌≡◌, ◌+◌, get_or, length, sym, ap, ◌∙◌, arith}
use Rattle.gob_meaning.specs.Fold.{branch_counts}
use Rattle.gob_meaning.specs.Sums.{both_branches}
use Rattle.gob_pipeline.specs.Taking.{fold_of_items}
use Rattle.gob_pipeline.proofs.Counting.{none_made, sums_to, sums_on, sums_all}
use Rattle.gob_pipeline.proofs.tally.add_branches.Goals as goal

pub loop-branch-preserved : goal.loop-branch-preserved
loop-branch-preserved c =
    let g = branch_counts (fold_of_items c.args.items.now) in
    let l = c.loop-branch in
    record {
      number = ap (λ n. n + 1) l.invariant.number;
      sums = sums_on g l.branch-index c.args.branches.now l.branches none_made c.with_items.result l.invariant.sums
          (omega arith)
          (c.with_items.ensures
          ∙ ap (λ n. both_branches (get_or l.branches l.branch-index none_made) (g n)) l.invariant.number);
    }

pub returns : goal.returns
returns c =
    let g = branch_counts (fold_of_items c.args.items.now) in
    let all : c.loop-branch.branch-index ≡ length c.args.branches.now = omega arith in
    c.loop-branch.invariant.sums ∙ ap (λ n. sums_to g 0 n c.args.branches.now) all ∙ sums_all g 0 c.args.branches.now
