use Rattle.std.proofs.Common.{sym, ◌∙◌}
use Rattle.gob_text.proofs.Splits.{takes_name, takes_no_name}
use Rattle.gob_text.proofs.words.Words.take_name.Goals as goal

pub returns-in-Some-clause-ok : goal.returns-in-Some-clause-ok
returns-in-Some-clause-ok c =
    let found = rw c.in-Some.is at c.in_ok-name.ensures in
    takes_name _ _ _ _
    (sym c.self.view_is
    ∙ c.split_word.ensures.whole) c.split_word.ensures.word c.split_word.ensures.ends found.0 found.1

pub returns-in-None-clause-ok : goal.returns-in-None-clause-ok
returns-in-None-clause-ok c = takes_no_name _ _ _
    (sym c.self.view_is ∙ c.split_word.ensures.whole) c.split_word.ensures.word c.split_word.ensures.ends
    (rw c.in-None.is at c.in_ok-name.ensures)
