use Rattle.std.proofs.Common.{refl}
use Rattle.std.proofs.lemmas.Bool.{ne_eqb}
use Rattle.gob_pipeline.proofs.Making.{text_of_cr, text_of_other}
use Rattle.gob_pipeline.proofs.pipeline.text_of.Goals as goal

pub returns-then-last-eq13 : goal.returns-then-last-eq13
returns-then-last-eq13 c body ends =
    text_of_cr c.args.raw.now body _ c.in-Some.front.now c.in-Some.last.now refl c.in-Some.ensures.cases.0
    c.if-last-eq13.true ends

pub returns : goal.returns
returns c body ends =
    text_of_other c.args.raw.now body _ c.in-Some.front.now c.in-Some.last.now refl c.in-Some.ensures.cases.0
    (ne_eqb c.in-Some.last.now 13 c.if-last-eq13.false) ends
