use Rattle.gob_bytes.proofs.Forms.{offsets_one_form}
use Rattle.gob_bytes.proofs.offsets_have_one_form.Goals as goal

pub returns : goal.returns
returns c = offsets_one_form
