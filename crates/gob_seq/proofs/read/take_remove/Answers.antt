use Rattle.gob_seq.proofs.Lines.{remove_no_feed, remove_no_name, remove_taken}
use Rattle.gob_seq.proofs.read.take_remove.Goals as goal

pub returns-in_default : goal.returns-in_default
returns-in_default c = remove_no_name _ _ (rw c.in_default.is at c.in_ok-name.ensures)

pub returns-then-not-take_text : goal.returns-then-not-take_text
returns-then-not-take_text c =
    remove_no_feed _ _ _ _ (rw c.in-Some.is at c.in_ok-name.ensures) c.if-not-take_text.ensures

pub returns : goal.returns
returns c = remove_taken _ _ _ _ (rw c.in-Some.is at c.in_ok-name.ensures) c.if-not-take_text.ensures
