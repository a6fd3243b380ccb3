use Rattle.std.proofs.Common.{◌∙◌, sym, arith, length-set}
use Rattle.gob_bytes.specs.Digits.{offset}
use Rattle.gob_text.proofs.Offsets.{padded_step, padded_none}
use Rattle.gob_text.proofs.numbers.offset_digits.Goals as goal

pub loop-i-preserved : goal.loop-i-preserved
loop-i-preserved c =
    let l = c.loop-i in
    (simp length-set (l.invariant.0), padded_step l.i l.n l.digits (omega arith) (omega arith) ∙ l.invariant.1)

pub returns : goal.returns
unfolding offset
returns c = sym (padded_none c.loop-i.i c.loop-i.n c.loop-i.digits (omega arith)) ∙ c.loop-i.invariant.1
