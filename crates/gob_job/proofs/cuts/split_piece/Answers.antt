use Rattle.gob_job.proofs.Pieces.{byte_piece, byte_only}
use Rattle.gob_job.proofs.cuts.split_piece.Goals as goal

pub returns-in-Some-clause-pieces : goal.returns-in-Some-clause-pieces
returns-in-Some-clause-pieces c =
    byte_piece c.args.separator c.args.text.now c.in-Some.at _ _ c.in-Some.ensures.0 c.in-Some.ensures.1
    c.split_at.ensures.front c.split_at-in-Some.ensures.back

pub returns-in-None-clause-pieces : goal.returns-in-None-clause-pieces
returns-in-None-clause-pieces c = byte_only c.args.separator c.args.text.now c.in-None.ensures
