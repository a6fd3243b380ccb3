use Rattle.gob_seq.proofs.Lines.{none_taken}
use Rattle.gob_seq.proofs.read.take_line.Goals as goal

pub returns : goal.returns
returns c = none_taken _ _ _ c.if-take_text.ensures c.if-take_text-2.ensures
