use Rattle.std.proofs.Common.{arith, length}
use Rattle.gob_text.proofs.Splits.{no_break-before}
use Rattle.gob_text.proofs.words.split_word.Goals as goal

pub returns-in-Some-clause-word : goal.returns-in-Some-clause-word
returns-in-Some-clause-word c = rw c.split_at.ensures.front
    (no_break-before c.args.text.now c.in-Some.end c.in-Some.ensures.0.before (omega (arith, c.in-Some.ensures.0.high)))

pub returns-in-None-clause-word : goal.returns-in-None-clause-word
returns-in-None-clause-word c = rw c.split_at-in-None.ensures.front
    (no_break-before c.args.text.now (length c.args.text.now) c.in-None.ensures (omega arith))
