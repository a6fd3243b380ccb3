use Rattle.gob_recovery.proofs.Images.{images_alike}
use Rattle.gob_recovery.proofs.images_settle_alike.Goals as goal

pub returns : goal.returns
returns c = images_alike
