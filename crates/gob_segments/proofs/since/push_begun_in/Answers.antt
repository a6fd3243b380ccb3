use Rattle.std.proofs.Common.{◌∙◌, ◌++◌, List, ap, arith}
use Rattle.gob_ledger.specs.Marks.{Done, Span}
use Rattle.gob_segments.specs.Written.{begun_in}
use Rattle.gob_segments.proofs.Later.{parts_all, parts_more}
use Rattle.gob_segments.proofs.since.push_begun_in.Goals as goal

pub loop-i-preserved : goal.loop-i-preserved
loop-i-preserved c = parts_more (λ (s : Span). begun_in s c.args.after.now) c.args.into.now.items c.loop-i.into.items _
    c.args.ranges.now c.loop-i.i c.index-ranges-i.result (omega arith) c.index-ranges-i.is c.loop-i.invariant
    (c.in_ok-extend_from_slice.ensures.items
    ∙ ap (λ (ds : List Done). c.loop-i.into.items ++ ds) c.part_begun_in.ensures)

pub returns : goal.returns
returns c = parts_all (λ (s : Span). begun_in s c.args.after.now) c.args.into.now.items c.loop-i.into.items
    c.args.ranges.now c.loop-i.i (omega arith) c.loop-i.invariant
