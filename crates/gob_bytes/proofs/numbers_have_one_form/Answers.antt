use Rattle.gob_bytes.proofs.Forms.{one_form}
use Rattle.gob_bytes.proofs.numbers_have_one_form.Goals as goal

pub returns : goal.returns
returns c = one_form
