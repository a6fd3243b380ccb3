use Rattle.std.proofs.Common.{arith, sym, ◌∙◌}
use Rattle.std.proofs.lemmas.Bool.{eqb-true, eqb-false}
use Rattle.gob_text.proofs.Splits.{takes_word, takes_no_word}
use Rattle.gob_text.proofs.words.Words.take_word.Goals as goal

pub returns-then-is_empty : goal.returns-then-is_empty
returns-then-is_empty c = takes_no_word _ _ _
    (sym c.self.view_is ∙ c.split_word.ensures.whole) c.split_word.ensures.word c.split_word.ensures.ends
    (eqb-true _ 0 (sym c.is_empty.ensures ∙ c.if-is_empty.true))

pub returns : goal.returns
returns c =
    let full = eqb-false _ 0 (sym c.is_empty.ensures ∙ c.if-is_empty.false) in
    takes_word _ _ _
    (sym c.self.view_is ∙ c.split_word.ensures.whole) c.split_word.ensures.word c.split_word.ensures.ends
    (omega arith)
