use Rattle.std.proofs.Common.{refl}
use Rattle.gob_pipeline.specs.States.{state_value}
use Rattle.gob_pipeline.proofs.Lines.{rest_fed}
use Rattle.gob_pipeline.proofs.machine.State.keep.Goals as goal

pub returns-clause-ok : goal.returns-clause-ok
returns-clause-ok c = λ plan b.
    rest_fed plan (state_value c.args.self.now) _ c.args.front.now b c.requires.feed
    (record { lo = refl; seen = refl; torn = c.is_torn-self.ensures; whole = refl }) refl refl refl
    c.in_ok-keep_front.ensures
