use Rattle.std.proofs.Common.{sym, ◌∙◌, subst, Option, ℕ, decimal, ◌<◌, ◌^◌}
use Rattle.gob_text.specs.Words.{Takes, EndsWord}
use Rattle.gob_text.proofs.Splits.{takes_number, takes_no_number}
use Rattle.gob_text.proofs.words.Words.take_number.Goals as goal

pub returns-in_err-number : goal.returns-in_err-number
returns-in_err-number c =
    subst (λ (r : Option ℕ). Takes decimal (λ n. n < 2 ^ 64) EndsWord c.args.self.now c.args.self.now r)
    (sym c.from_residual.ensures)
    (takes_no_number _ _ _
    (sym c.self.view_is ∙ c.split_word.ensures.whole) c.split_word.ensures.word c.split_word.ensures.ends
    (sym c.in_err-number.ensures))

pub returns : goal.returns
returns c = takes_number _ _ _ c.in_ok-number.number
    (sym c.self.view_is ∙ c.split_word.ensures.whole) c.split_word.ensures.word c.split_word.ensures.ends
    (sym c.in_ok-number.ensures)
