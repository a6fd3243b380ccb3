use Rattle.gob_seq.proofs.Lines.{move_no_feed, move_no_source, move_no_space, move_no_target, move_taken}
use Rattle.gob_seq.proofs.read.take_move.Goals as goal

pub returns-in_default : goal.returns-in_default
returns-in_default c = move_no_source _ _ (rw c.in_default.is at c.in_ok-from.ensures)

pub returns-then-not-take_text : goal.returns-then-not-take_text
returns-then-not-take_text c =
    move_no_space _ _ _ _ (rw c.in-Some.is at c.in_ok-from.ensures) c.if-not-take_text.ensures

pub returns-in_default-2 : goal.returns-in_default-2
returns-in_default-2 c =
    move_no_target _ _ _ _ _ (rw c.in-Some.is at c.in_ok-from.ensures) c.if-not-take_text.ensures
    (rw c.in_default-2.is at c.in_ok-to.ensures)

pub returns-then-not-take_text-2 : goal.returns-then-not-take_text-2
returns-then-not-take_text-2 c =
    move_no_feed _ _ _ _ _ _ _ (rw c.in-Some.is at c.in_ok-from.ensures) c.if-not-take_text.ensures
    (rw c.in-Some-2.is at c.in_ok-to.ensures) c.if-not-take_text-2.ensures

pub returns : goal.returns
returns c =
    move_taken _ _ _ _ _ _ _ (rw c.in-Some.is at c.in_ok-from.ensures) c.if-not-take_text.ensures
    (rw c.in-Some-2.is at c.in_ok-to.ensures) c.if-not-take_text-2.ensures
