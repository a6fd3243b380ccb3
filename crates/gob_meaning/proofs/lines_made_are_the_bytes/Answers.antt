use Rattle.gob_meaning.proofs.PlainLines.{plain_lines, plain_unit, plain_fits}
use Rattle.gob_meaning.proofs.lines_made_are_the_bytes.Goals as goal

pub returns-clause-made : goal.returns-clause-made
returns-clause-made c = plain_lines

pub returns-clause-good : goal.returns-clause-good
returns-clause-good c = plain_unit

pub returns-clause-fitting : goal.returns-clause-fitting
returns-clause-fitting c = plain_fits
