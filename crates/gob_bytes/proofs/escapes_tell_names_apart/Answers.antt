use Rattle.gob_bytes.proofs.Forms.{escapes_apart}
use Rattle.gob_bytes.proofs.escapes_tell_names_apart.Goals as goal

pub returns : goal.returns
returns c = escapes_apart
