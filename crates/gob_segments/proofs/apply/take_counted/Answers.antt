use Rattle.std.proofs.Common.{◌∙◌, arith}
use Rattle.gob_state.specs.Versions.{version_of}
use Rattle.gob_segments.proofs.Stated.{changes_missing, counted_there, too_few, totals_missing}
use Rattle.gob_segments.proofs.apply.take_counted.Goals as goal

pub returns-in_default : goal.returns-in_default
returns-in_default c = totals_missing (version_of c.args.version) c.args.pipelines c.args.least c.args.before _ _
    c.in_ok-totals.field-0 c.in_ok-totals.ensures c.in_default.is

pub returns-then-len-least : goal.returns-then-len-least
returns-then-len-least c = too_few (version_of c.args.version) c.args.pipelines c.args.least c.args.before _ _
    c.in_ok-totals.field-0 c.in-Some.totals c.in_ok-totals.ensures c.in-Some.is
    (omega (arith, c.len.ensures, c.if-len-least.true))

pub returns-in_default-2 : goal.returns-in_default-2
returns-in_default-2 c = changes_missing (version_of c.args.version) c.args.pipelines c.args.least c.args.before _ _ _
    c.in_ok-totals.field-0 c.in-Some.totals c.in_ok-marks.field-0 c.in_ok-totals.ensures c.in-Some.is
    (omega (arith, c.len.ensures, c.if-len-least.false)) c.in_ok-marks.ensures c.in_default-2.is

pub returns : goal.returns
returns c = counted_there (version_of c.args.version) c.args.pipelines c.args.least c.args.before c.in-Some-2.marks _ _
    _
    c.in_ok-totals.field-0 c.in-Some.totals c.in_ok-marks.field-0 c.in_ok-totals.ensures c.in-Some.is
    (omega (arith, c.len.ensures, c.if-len-least.false)) c.in_ok-marks.ensures c.in-Some-2.is
