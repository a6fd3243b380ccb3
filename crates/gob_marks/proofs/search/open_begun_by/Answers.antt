use Rattle.std.proofs.Common.{◌+◌, ◌-◌, ◌/◌, ◌<◌, ◌≤◌, length, get_or, ap, arith}
use Rattle.gob_ledger.specs.Marks.{Span}
use Rattle.gob_marks.specs.Places.{begun_by}
use Rattle.gob_marks.proofs.Places.{begun-le, passed, stopped}
use Rattle.gob_marks.proofs.search.open_begun_by.Goals as goal

pub loop-low-init : goal.loop-low-init
loop-low-init c = (omega arith, begun-le c.args.at c.args.ranges.now, omega arith)

pub loop-low-preserved-then-range-at : goal.loop-low-preserved-then-range-at
loop-low-preserved-then-range-at c =
    let middle = c.loop-low.low + (c.loop-low.high - c.loop-low.low) / 2 in
    let within : middle < length c.args.ranges.now = omega arith in
    let view = ap (λ (s : Span). s.lo) c.range.view_is in
    let read = ap (λ (s : Span). s.lo) c.index-ranges-middle.is in
    let low : (get_or c.args.ranges.now middle c.index-ranges-middle.result).lo ≤ c.args.at =
    omega (arith, view, read) in
    let more : middle < begun_by c.args.at c.args.ranges.now =
    passed c.args.at 0 c.args.ranges.now middle c.index-ranges-middle.result c.requires within low in
    (omega (arith, more), omega arith, omega arith)

pub loop-low-preserved : goal.loop-low-preserved
loop-low-preserved c =
    let middle = c.loop-low.low + (c.loop-low.high - c.loop-low.low) / 2 in
    let within : middle < length c.args.ranges.now = omega arith in
    let view = ap (λ (s : Span). s.lo) c.range.view_is in
    let read = ap (λ (s : Span). s.lo) c.index-ranges-middle.is in
    let high : c.args.at < (get_or c.args.ranges.now middle c.index-ranges-middle.result).lo =
    omega (arith, view, read) in
    let still : begun_by c.args.at c.args.ranges.now ≤ middle =
    stopped c.args.at c.args.ranges.now middle c.index-ranges-middle.result within high in
    (omega arith, still, omega arith)
