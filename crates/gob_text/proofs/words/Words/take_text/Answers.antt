use Rattle.std.proofs.Common.{sym, ◌∙◌}
use Rattle.gob_text.proofs.Splits.{takes_text}
use Rattle.gob_text.proofs.words.Words.take_text.Goals as goal

pub returns-in-Some : goal.returns-in-Some
returns-in-Some c = takes_text _ _ _ (sym c.self.view_is ∙ c.in-Some.ensures)
