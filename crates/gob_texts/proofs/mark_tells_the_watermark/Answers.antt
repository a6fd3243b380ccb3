use Rattle.gob_texts.proofs.Reached.{watermark}
use Rattle.gob_texts.proofs.mark_tells_the_watermark.Goals as goal

pub returns : goal.returns
returns c = watermark
