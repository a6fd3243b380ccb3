use Rattle.std.proofs.Common.{◌+◌, ◌-◌, ◌/◌, ◌<◌, ◌≤◌, length, get_or, ap, arith}
use Rattle.gob_ledger.specs.Marks.{Span, Done}
use Rattle.gob_ledger.proofs.Ranges.{spans}
use Rattle.gob_marks.specs.Places.{begun_by}
use Rattle.gob_marks.proofs.Places.{begun-le, passed, stopped, spans-length, spans-get}
use Rattle.gob_marks.proofs.search.done_begun_by.Goals as goal

pub loop-low-init : goal.loop-low-init
loop-low-init c = (
  omega arith,
  omega
      (arith, begun-le c.args.at (spans c.args.ranges.now), spans-length c.args.ranges.now),
  omega arith,
)

pub loop-low-preserved-then-range-at : goal.loop-low-preserved-then-range-at
loop-low-preserved-then-range-at c =
    let middle = c.loop-low.low + (c.loop-low.high - c.loop-low.low) / 2 in
    let within : middle < length (spans c.args.ranges.now) = omega (arith, spans-length c.args.ranges.now) in
    let view = ap (λ (s : Span). s.lo) c.range.view_is in
    let outer = ap (λ (d : Done). d.span.lo) c.done.view_is in
    let read = ap (λ (d : Done). d.span.lo) c.index-ranges-middle.is in
    let there = ap (λ (s : Span). s.lo) (spans-get c.args.ranges.now middle c.index-ranges-middle.result) in
    let low : (get_or (spans c.args.ranges.now) middle c.index-ranges-middle.result.span).lo ≤ c.args.at =
    omega (arith, view, outer, read, there) in
    let more : middle < begun_by c.args.at (spans c.args.ranges.now) =
    passed c.args.at 0 (spans c.args.ranges.now) middle c.index-ranges-middle.result.span c.requires within low in
    (omega (arith, more), omega arith, omega arith)

pub loop-low-preserved : goal.loop-low-preserved
loop-low-preserved c =
    let middle = c.loop-low.low + (c.loop-low.high - c.loop-low.low) / 2 in
    let within : middle < length (spans c.args.ranges.now) = omega (arith, spans-length c.args.ranges.now) in
    let view = ap (λ (s : Span). s.lo) c.range.view_is in
    let outer = ap (λ (d : Done). d.span.lo) c.done.view_is in
    let read = ap (λ (d : Done). d.span.lo) c.index-ranges-middle.is in
    let there = ap (λ (s : Span). s.lo) (spans-get c.args.ranges.now middle c.index-ranges-middle.result) in
    let high : c.args.at < (get_or (spans c.args.ranges.now) middle c.index-ranges-middle.result.span).lo =
    omega (arith, view, outer, read, there) in
    let still : begun_by c.args.at (spans c.args.ranges.now) ≤ middle =
    stopped c.args.at (spans c.args.ranges.now) middle c.index-ranges-middle.result.span within high in
    (omega arith, still, omega arith)
