use Rattle.std.proofs.Common.{sym, ◌∙◌}
use Rattle.gob_text.proofs.Splits.{takes_line}
use Rattle.gob_text.proofs.words.Words.take_line.Goals as goal

pub returns : goal.returns
returns c = takes_line _ _ _ c.in_ok-line.ensures.0 (sym c.self.view_is ∙ c.in_ok-line.ensures.1)
