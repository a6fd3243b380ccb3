use Rattle.std.proofs.Common.{nat_eq, sym, ap, ◌∙◌}
use Rattle.gob_jobs.specs.Elements as spec
use Rattle.gob_job.proofs.Pieces.{past_two}
use Rattle.gob_job.proofs.rules.branch_counter.Goals as goal

pub returns-then-is_some : goal.returns-then-is_some
returns-then-is_some c =
    let p = past_two (nat_eq 46) c.args.word.now _ _ c.split_piece.result.1 c.split_piece-2.result.1 _
    c.split_piece.ensures.pieces c.in-Some.is c.split_piece-2.ensures.pieces
    (sym c.is_some.ensures ∙ c.if-is_some.true) in
    sym (ap (spec.branch_counter c.args.branches) p.2)
