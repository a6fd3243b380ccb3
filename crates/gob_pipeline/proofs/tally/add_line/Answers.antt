use Rattle.std.proofs.Common.{◌≡◌, ◌+◌, List, ℕ, length, map, sym, ap, ap₂, ◌∙◌, arith}
use Rattle.std.specs.List.{range_with_len}
use Rattle.gob_plan.specs.declared.units.BranchCounts.{BranchCounts}
use Rattle.gob_meaning.specs.Fold.{branch_counts, items_in, saturate_u64}
use Rattle.gob_meaning.specs.Sums.{branch_sums}
use Rattle.gob_pipeline.specs.Taking.{fold_of_items, line_of_end}
use Rattle.gob_pipeline.proofs.Counting.{line_added, same_branches, same_items}
use Rattle.gob_pipeline.proofs.Fronts.{refilled}
use Rattle.gob_pipeline.proofs.tally.add_line.Goals as goal

pub returns : goal.returns
returns c = λ raw.
    let items = c.args.items.now in
    let before = c.args.counts.now in
    let l = line_of_end c.args.end raw items in
    let own = same_items c.args.end raw items c.requires in
    let from : c.as_mut_slice.result.now ≡ before.branches =
    c.as_mut_slice.ensures.value ∙ c.into_vec-branches.ensures ∙ c.replace.ensures.value in
    let back : c.from_vec.result ≡ c.add_branches.new.branches = c.from_vec.ensures
    ∙ refilled c.into_vec-branches.result.len c.add_branches.new.branches c.into_vec-branches.result.items
    (omega arith) in
    let sums = ap (λ (bs : List BranchCounts).
    branch_sums bs (map (branch_counts (fold_of_items items)) (range_with_len 0 (length bs)))) from in
    let records : c.saturating_add-counts.result ≡ saturate_u64 (before.records + c.records_in.result) =
    omega (arith, c.saturating_add-counts.ensures) in
    let bad : c.saturating_add-counts-2.result ≡ saturate_u64 (before.bad + c.bad_in.result) =
    omega (arith, c.saturating_add-counts-2.ensures) in
    let rows : c.saturating_add-counts-3.result ≡ saturate_u64 (before.rows + c.rows_in.result) =
    omega (arith, c.saturating_add-counts-3.ensures) in
    let unrouted : c.saturating_add-counts-4.result ≡ saturate_u64 (before.unrouted + c.unrouted_in.result) =
    omega (arith, c.saturating_add-counts-4.ensures) in
    (λ k. record {
      records = records k;
      bad = bad k;
      rows = rows k;
      unrouted = unrouted k;
      branches = c.from_vec.result;
    })
    ∙ line_added before l c.records_in.result c.bad_in.result c.rows_in.result c.unrouted_in.result c.from_vec.result
    (c.records_in.ensures raw items) (c.bad_in.ensures raw items) (c.rows_in.ensures raw items)
    (c.unrouted_in.ensures raw items)
    (back ∙ c.add_branches.ensures ∙ sums ∙ ap (branch_sums before.branches)
    (same_branches (length before.branches) l items own))
