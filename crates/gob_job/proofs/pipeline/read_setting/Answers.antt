use Rattle.std.proofs.Common.{nat_eq, sym, ap, ◌∙◌}
use Rattle.gob_jobs.specs.Pipelines.{setting_of_pieces}
use Rattle.gob_job.proofs.Pieces.{past_two}
use Rattle.gob_job.proofs.pipeline.read_setting.Goals as goal

pub returns-then-is_some : goal.returns-then-is_some
returns-then-is_some c =
    let p = past_two (nat_eq 61) c.args.line.now _ _ c.split_piece.result.1 c.split_piece-2.result.1 _
    c.split_piece.ensures.pieces c.in-Some.is c.split_piece-2.ensures.pieces
    (sym c.is_some.ensures ∙ c.if-is_some.true) in
    sym (ap setting_of_pieces p.2)
