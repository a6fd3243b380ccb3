use Rattle.std.proofs.Common.{nat_lt, rules, sym, subst, map-id}
use Rattle.std.proofs.lemmas.List.Sorted.{IsPartitionPoint-from_clause, IsPartitionedBy-ltb}
use Rattle.gob_ledger.specs.Marks.{InOrder, Span}
use Rattle.gob_segments.proofs.Halves.{back_kept, rises}
use Rattle.gob_segments.proofs.since.open_below.Goals as goal

pub returns-clause-back : goal.returns-clause-back
returns-clause-back c =
    let order = subst (InOrder 0) (sym (map-id c.args.ranges.now)) c.requires in
    let parted = IsPartitionedBy-ltb (λ (s : Span). s.lo) _ c.args.at
    (rises (λ (s : Span). s) 0 c.args.ranges.now order) in
    let point = IsPartitionPoint-from_clause (λ (s : Span). nat_lt s.lo c.args.at) _ _
    c.partition_point.ensures.partitioned parted (λ a r q k. search rules) in
    back_kept (λ (s : Span). nat_lt s.lo c.args.at) c.args.ranges.now c.partition_point.result
    c.partition_point.ensures.bound point
