use Rattle.std.proofs.Common.{Some, Option, subst}
use Rattle.gob_state.specs.Ranges.{TakesRange}
use Rattle.gob_state.specs.Versions.{version_of}
use Rattle.gob_state.specs.declared.ranges.RangeLine.{RangeLine}
use Rattle.gob_state.proofs.RangeLemmas.{next_range, range_malformed, range_refused, ranges_read}
use Rattle.gob_state.proofs.ranges.take_ranges.Goals as goal

pub returns-in_default-next : goal.returns-in_default-next
returns-in_default-next c =
    let t = subst (λ (o : Option RangeLine). TakesRange
    (version_of c.args.version) c.loop-next.text c.take_range.new.text (Some o))
    c.in_default-next.is c.in-Some.ensures in
    ranges_read (version_of c.args.version) c.args.pipelines _ c.loop-next.text c.take_range.new.text c.loop-next.marks
    c.loop-next.invariant t.0 t.1

pub returns-then-not-branch : goal.returns-then-not-branch
returns-then-not-branch c =
    let t = subst (λ (o : Option RangeLine). TakesRange
    (version_of c.args.version) c.loop-next.text c.take_range.new.text (Some o))
    c.in-Some-next.is c.in-Some.ensures in
    range_refused
    (version_of c.args.version) c.args.pipelines _ c.loop-next.text c.take_range.new.text _ c.loop-next.marks
    c.in-Some-next.line c.loop-next.invariant t.0 t.1 (c.in_ok-add_range.ensures.refused c.if-not-branch.true)

pub loop-next-preserved : goal.loop-next-preserved
loop-next-preserved c =
    let t = subst (λ (o : Option RangeLine). TakesRange
    (version_of c.args.version) c.loop-next.text c.take_range.new.text (Some o))
    c.in-Some-next.is c.in-Some.ensures in
    let g = c.in_ok-add_range.ensures.added c.if-not-branch.false in
    next_range (version_of c.args.version) c.args.pipelines _ c.loop-next.text c.take_range.new.text c.loop-next.marks _
    c.in-Some-next.line c.loop-next.invariant t.0 t.1 g.0 g.1

pub returns : goal.returns
returns c = range_malformed (version_of c.args.version) c.args.pipelines _ c.loop-next.text c.take_range.new.text _
    c.loop-next.marks c.loop-next.invariant c.in_default.ensures.0 c.in_default.ensures.1
