use Rattle.std.proofs.Common.{◌+◌, length, refl, ap}
use Rattle.gob_pipeline.specs.States.{state_value}
use Rattle.gob_pipeline.proofs.Feeding.{line_passed, line_ended}
use Rattle.gob_pipeline.proofs.Taken.{not_some}
use Rattle.gob_pipeline.proofs.machine.State.feed_line.Goals as goal

pub returns-in-Some-clause-ok : goal.returns-in-Some-clause-ok
returns-in-Some-clause-ok c =
    line_passed c.args.pipeline.now (state_value c.args.self.now) _ c.args.line.now c.in-Some.field-0
    c.args.buffers.now c.requires.line c.in-Some.is (record { lo = refl; seen = refl; torn = refl; whole = refl }) refl

pub returns-clause-ok : goal.returns-clause-ok
returns-clause-ok c =
    let took = c.in_ok-take.ensures in
    line_ended c.args.pipeline.now c.args.self.now c.take.new.self _ c.args.line.now c.args.buffers.now
    c.take.new.buffers c.requires.line (not_some c.args.self.now.tally.stop c.in_default.not-Some) took.ok
    (record {
      lo = took.lo;
      seen = ap (λ n. n + length c.args.line.now) took.seen;
      torn = refl;
      whole = took.ok.whole;
    })
    refl refl refl refl
