use Rattle.std.proofs.Common.{arith}
use Rattle.std.proofs.lemmas.Bool.{eq-eqb, eqb-true}
use Rattle.gob_pipeline.proofs.Feeding.{no_feed, first_feed}
use Rattle.gob_pipeline.proofs.machine.line_end.Goals as goal

pub returns-in-Some : goal.returns-in-Some
returns-in-Some c =
    let found = c.in-Some.ensures in
    first_feed c.args.bytes.now c.in-Some.place found.0.high (eqb-true _ 10 found.1)
    (λ j below feed. found.0.before j (omega arith) below (eq-eqb _ 10 feed))

pub returns-in-None : goal.returns-in-None
returns-in-None c = no_feed c.args.bytes.now (λ j lt feed. c.in-None.ensures j (omega arith) lt (eq-eqb _ 10 feed))
