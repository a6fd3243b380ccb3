use Rattle.gob_segments.proofs.Piped.{any_is, came_before, none_there, one_came}
use Rattle.gob_segments.proofs.pipelines.take_one_more.Goals as goal

pub returns-in_default-2 : goal.returns-in_default-2
returns-in_default-2 c = none_there c.args.known _ _ _ c.take_numbered.result c.in-Some.count c.in_ok-pipeline.field-0
    c.take_numbered.ensures c.in-Some.is c.if-count-eq0.false c.in_ok-pipeline.ensures c.in_default-2.is

pub returns-then-has_pipeline : goal.returns-then-has_pipeline
returns-then-has_pipeline c = came_before c.args.known _ _ _ c.take_numbered.result c.in-Some.count
    c.in_ok-pipeline.field-0 c.in-Some-2.pipeline c.take_numbered.ensures c.in-Some.is c.if-count-eq0.false
    c.in_ok-pipeline.ensures c.in-Some-2.is
    (any_is _ c.in-Some-2.pipeline _ c.args.known _ _ c.has_pipeline.ensures c.as_str.ensures c.as_slice.ensures
    c.if-has_pipeline.true)

pub returns : goal.returns
returns c = one_came c.args.known _ _ _ c.take_numbered.result c.in-Some.count
    c.in_ok-pipeline.field-0 c.in-Some-2.pipeline _ c.requires c.take_numbered.ensures c.in-Some.is c.if-count-eq0.false
    c.if-count-ne1.false c.in_ok-pipeline.ensures c.in-Some-2.is
    (any_is _ c.in-Some-2.pipeline _ c.args.known _ _ c.has_pipeline.ensures c.as_str.ensures c.as_slice.ensures
    c.if-has_pipeline.false) c.in_ok-push.ensures.ok
