use Rattle.gob_meaning.proofs.Fits.{fits_in_parts, rules_aside}
use Rattle.gob_meaning.proofs.Folders.{places_aside}
use Rattle.gob_meaning.proofs.plans_fit_in_parts.Goals as goal

pub returns-clause-parts : goal.returns-clause-parts
returns-clause-parts c = fits_in_parts

pub returns-clause-rules : goal.returns-clause-rules
returns-clause-rules c = rules_aside

pub returns-clause-places : goal.returns-clause-places
returns-clause-places c = places_aside
