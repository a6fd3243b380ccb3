use Rattle.std.proofs.Common.{◌≡◌, ◌+◌, sym, subst, arith}
use Rattle.gob_state.proofs.SettingLemmas.{SomePipelines, next_pipeline, pipeline_missing, pipelines_read}
use Rattle.gob_state.proofs.Steps.{is_there}
use Rattle.gob_state.proofs.pipelines.take_pipelines.Goals as goal

pub returns-in_default : goal.returns-in_default
returns-in_default c = pipeline_missing c.args.count c.loop.counter _ _ c.take_pipeline.new.text _ c.loop.pipelines _
    c.loop.invariant c.loop-test.true c.in_ok-pipeline.ensures c.in_default.is

pub loop-preserved : goal.loop-preserved
loop-preserved c =
    subst (λ ps. SomePipelines c.args.count c.args.text.now c.take_pipeline.new.text ps (c.loop.counter + 1))
    (sym c.in_ok-push.ensures.ok)
    (next_pipeline c.args.count c.loop.counter _ _ c.take_pipeline.new.text c.loop.pipelines c.in-Some.pipeline
    c.loop.invariant c.loop-test.true (is_there _ _ _ c.in-Some.pipeline c.in_ok-pipeline.ensures c.in-Some.is))

pub returns : goal.returns
returns c =
    let all : c.loop.counter ≡ c.args.count = omega arith in
    pipelines_read c.args.count _ _ c.loop.pipelines
    (subst (SomePipelines c.args.count c.args.text.now c.loop.text c.loop.pipelines) all c.loop.invariant)
