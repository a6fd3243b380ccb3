use Rattle.gob_props.proofs.NaturalLaws.{text_lines}
use Rattle.gob_props.proofs.laws.natural_lines_are_the_text.Goals as goal

pub returns : goal.returns
returns c = text_lines
