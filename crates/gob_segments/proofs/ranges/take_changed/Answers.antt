use Rattle.std.proofs.Common.{Some, Option, subst}
use Rattle.gob_state.specs.Ranges.{TakesRange}
use Rattle.gob_state.specs.Versions.{version_of}
use Rattle.gob_state.specs.declared.ranges.RangeLine.{RangeLine}
use Rattle.gob_segments.proofs.PutLines.{begins_low, next_put, none_put_read, nothing_put, put_malformed, put_read}
use Rattle.gob_segments.proofs.PutLines.{put_refused}
use Rattle.gob_segments.proofs.ranges.take_changed.Goals as goal

pub loop-next-init : goal.loop-next-init
loop-next-init c = nothing_put (version_of c.args.version) c.args.pipelines c.args.before c.args.text.now c.requires

pub returns-then-from-eq0 : goal.returns-then-from-eq0
returns-then-from-eq0 c =
    let t = subst (λ (o : Option RangeLine). TakesRange
    (version_of c.args.version) c.loop-next.text c.take_range.new.text (Some o))
    c.in_default-next.is c.in-Some.ensures in
    none_put_read (version_of c.args.version) c.args.pipelines c.args.before _ c.loop-next.text c.take_range.new.text
    c.loop-next.marks c.loop-next.from c.loop-next.invariant t.0 c.if-from-eq0.true

pub returns-in_default-next : goal.returns-in_default-next
returns-in_default-next c =
    let t = subst (λ (o : Option RangeLine). TakesRange
    (version_of c.args.version) c.loop-next.text c.take_range.new.text (Some o))
    c.in_default-next.is c.in-Some.ensures in
    put_read (version_of c.args.version) c.args.pipelines c.args.before _ c.loop-next.text c.take_range.new.text
    c.loop-next.marks c.loop-next.from c.loop-next.invariant t.0 c.if-from-eq0.false t.1

pub returns-then-not-branch : goal.returns-then-not-branch
returns-then-not-branch c =
    let t = subst (λ (o : Option RangeLine). TakesRange
    (version_of c.args.version) c.loop-next.text c.take_range.new.text (Some o))
    c.in-Some-next.is c.in-Some.ensures in
    put_refused (version_of c.args.version) c.args.pipelines c.args.before _ c.loop-next.text c.take_range.new.text _
    c.loop-next.marks c.loop-next.from c.in-Some-next.line c.loop-next.invariant t.0 t.1
    (c.in_ok-put_range.ensures.refused c.if-not-branch.true)

pub behind_begin-from-requires : goal.behind_begin-from-requires
behind_begin-from-requires c =
    let t = subst (λ (o : Option RangeLine). TakesRange
    (version_of c.args.version) c.loop-next.text c.take_range.new.text (Some o))
    c.in-Some-next.is c.in-Some.ensures in
    begins_low (version_of c.args.version) c.args.pipelines c.loop-next.from c.loop-next.marks c.in-Some-next.line
    t.1.spelled.0 (c.in_ok-put_range.ensures.put c.if-not-branch.false).0

pub loop-next-preserved : goal.loop-next-preserved
loop-next-preserved c =
    let t = subst (λ (o : Option RangeLine). TakesRange
    (version_of c.args.version) c.loop-next.text c.take_range.new.text (Some o))
    c.in-Some-next.is c.in-Some.ensures in
    let put = c.in_ok-put_range.ensures.put c.if-not-branch.false in
    next_put (version_of c.args.version) c.args.pipelines c.args.before _ c.loop-next.text c.take_range.new.text
    c.loop-next.marks _ c.loop-next.from _ c.in-Some-next.line c.loop-next.invariant t.0 t.1 put.0 put.1
    c.behind_begin-from.ensures

pub returns : goal.returns
returns c = put_malformed (version_of c.args.version) c.args.pipelines c.args.before _ c.loop-next.text
    c.take_range.new.text _ c.loop-next.marks c.loop-next.from c.loop-next.invariant c.in_default.ensures.0
    c.in_default.ensures.1
