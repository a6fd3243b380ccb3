use Rattle.std.proofs.Common.{◌≡◌, ◌∙◌, ◌+◌, ◌<◌, true, length, ap, sym, subst, arith}
use Rattle.gob_ledger.specs.Marks.{Span}
use Rattle.gob_marks.proofs.Walks.{Walked, stops_apart, stops_past, stops_none, stops_there, walks_on}
use Rattle.gob_marks.proofs.joining.filling.Goals as goal

pub returns-then-not-goes_on : goal.returns-then-not-goes_on
returns-then-not-goes_on c =
    let below : c.loop-at.at < length c.args.ranges.now = omega arith in
    stops_apart c.args.range c.args.ranges.now c.loop-at.at c.loop-at.hi c.index-ranges-at.result c.requires.order
    c.loop-at.invariant.0 below c.index-ranges-at.is
    (λ lo pipeline. let yes : c.goes_on.result ≡ true =
    c.goes_on.ensures.1 (lo, pipeline ∙ sym c.loop-at.invariant.1) in cc)

pub returns-then-hi-range : goal.returns-then-hi-range
returns-then-hi-range c =
    let below : c.loop-at.at < length c.args.ranges.now = omega arith in
    let view = ap (λ (s : Span). s.hi) c.range.view_is in
    let past : c.args.range.hi < c.index-ranges-at.result.span.hi = omega (arith, view, c.end_of-hi.ensures) in
    stops_past c.args.range c.args.ranges.now c.loop-at.at c.loop-at.hi c.index-ranges-at.result c.requires.order
    c.loop-at.invariant.0 below c.index-ranges-at.is past

pub returns-then-hi-range-2 : goal.returns-then-hi-range-2
returns-then-hi-range-2 c =
    let below : c.loop-at.at < length c.args.ranges.now = omega arith in
    let view = ap (λ (s : Span). s.hi) c.range.view_is in
    let yes : c.goes_on.result ≡ true = cc in
    let on = c.goes_on.ensures.0 yes in
    let end : c.index-ranges-at.result.span.hi ≡ c.args.range.hi =
    sym c.end_of-hi.ensures ∙ c.if-hi-range-2.true ∙ view in
    stops_there c.args.range c.args.ranges.now c.loop-at.at c.loop-at.hi c.index-ranges-at.result c.requires.order
    c.loop-at.invariant.0 below c.index-ranges-at.is on.0 (on.1 ∙ c.loop-at.invariant.1) end

pub loop-at-preserved : goal.loop-at-preserved
loop-at-preserved c =
    let below : c.loop-at.at < length c.args.ranges.now = omega arith in
    let view = ap (λ (s : Span). s.hi) c.range.view_is in
    let yes : c.goes_on.result ≡ true = cc in
    let on = c.goes_on.ensures.0 yes in
    let before : c.index-ranges-at.result.span.hi < c.args.range.hi = omega (arith, view, c.end_of-hi.ensures) in
    let next = walks_on c.args.range c.args.ranges.now c.loop-at.at c.loop-at.hi c.index-ranges-at.result
    c.loop-at.invariant.0 below c.index-ranges-at.is on.0 (on.1 ∙ c.loop-at.invariant.1) before in (
      subst (Walked c.args.range c.args.ranges.now (c.loop-at.at + 1))
          (sym c.end_of-hi.ensures) next,
      c.loop-at.invariant.1,
    )

pub returns : goal.returns
returns c =
    let end : c.loop-at.at ≡ length c.args.ranges.now = omega arith in
    stops_none c.args.range c.args.ranges.now c.loop-at.at c.loop-at.hi c.requires.order c.loop-at.invariant.0 end
