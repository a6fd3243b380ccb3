use Rattle.std.proofs.Common.{nat_lt, rules}
use Rattle.std.proofs.lemmas.List.Sorted.{IsPartitionPoint-from_clause, IsPartitionedBy-ltb}
use Rattle.gob_ledger.specs.Marks.{Done}
use Rattle.gob_segments.proofs.Halves.{back_kept, front_kept, rises}
use Rattle.gob_segments.proofs.since.done_below.Goals as goal

pub returns-clause-front : goal.returns-clause-front
returns-clause-front c =
    let parted = IsPartitionedBy-ltb (λ (d : Done). d.span.lo) _ c.args.at
    (rises (λ (d : Done). d.span) 0 c.args.ranges.now c.requires) in
    let point = IsPartitionPoint-from_clause (λ (d : Done). nat_lt d.span.lo c.args.at) _ _
    c.partition_point.ensures.partitioned parted (λ a r q k. search rules) in
    front_kept (λ (d : Done). nat_lt d.span.lo c.args.at) c.args.ranges.now c.partition_point.result
    c.partition_point.ensures.bound point

pub returns-clause-back : goal.returns-clause-back
returns-clause-back c =
    let parted = IsPartitionedBy-ltb (λ (d : Done). d.span.lo) _ c.args.at
    (rises (λ (d : Done). d.span) 0 c.args.ranges.now c.requires) in
    let point = IsPartitionPoint-from_clause (λ (d : Done). nat_lt d.span.lo c.args.at) _ _
    c.partition_point.ensures.partitioned parted (λ a r q k. search rules) in
    back_kept (λ (d : Done). nat_lt d.span.lo c.args.at) c.args.ranges.now c.partition_point.result
    c.partition_point.ensures.bound point
