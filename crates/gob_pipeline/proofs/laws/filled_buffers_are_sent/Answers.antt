use Rattle.gob_pipeline.proofs.Filled.{filled_are_sent, pieces_fill}
use Rattle.gob_pipeline.proofs.laws.filled_buffers_are_sent.Goals as goal

pub returns-clause-filled : goal.returns-clause-filled
returns-clause-filled c = filled_are_sent

pub returns-clause-piece : goal.returns-clause-piece
returns-clause-piece c = pieces_fill
