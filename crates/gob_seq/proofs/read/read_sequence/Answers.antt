use Rattle.gob_seq.proofs.Lines.{made_read, no_body, no_first_line}
use Rattle.gob_seq.proofs.read.read_sequence.Goals as goal

pub returns-then-not-take_text : goal.returns-then-not-take_text
returns-then-not-take_text c =
    no_first_line c.args.job.now c.args.bytes.now _ _ c.new-words.ensures c.if-not-take_text.ensures

pub returns-in_default : goal.returns-in_default
returns-in_default c = no_body c.args.job.now c.args.bytes.now _ _ c.new-words.ensures c.if-not-take_text.ensures
    (rw c.in_default.is at c.in_ok-steps.ensures)

pub returns : goal.returns
returns c = made_read c.args.job.now c.args.bytes.now _ _ _ _ c.new-words.ensures c.if-not-take_text.ensures
    (rw c.in-Some.is at c.in_ok-steps.ensures) c.in_ok-made.ensures
