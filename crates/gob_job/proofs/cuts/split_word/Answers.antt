use Rattle.gob_jobs.specs.Words.{is_blank}
use Rattle.gob_job.proofs.Pieces.{passing_piece, only_piece}
use Rattle.gob_job.proofs.cuts.split_word.Goals as goal

pub returns-in-Some-clause-pieces : goal.returns-in-Some-clause-pieces
returns-in-Some-clause-pieces c =
    passing_piece is_blank c.args.text.now c.in-Some.at _ _ c.in-Some.ensures.0 c.in-Some.ensures.1
    c.split_at.ensures.front c.split_at-in-Some.ensures.back

pub returns-in-None-clause-pieces : goal.returns-in-None-clause-pieces
returns-in-None-clause-pieces c = only_piece is_blank c.args.text.now c.in-None.ensures
