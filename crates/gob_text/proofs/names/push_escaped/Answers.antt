use Rattle.std.proofs.Common.{arith, ◌∙◌}
use Rattle.gob_bytes.specs.Escapes.{AreBytes}
use Rattle.gob_text.proofs.Escaping.{front_added, all_added, bytes_from_fits}
use Rattle.gob_text.proofs.Fronts.{on_err}
use Rattle.gob_text.proofs.names.push_escaped.Goals as goal

pub returns-in_err-extend_from_slice-clause-err : goal.returns-in_err-extend_from_slice-clause-err
returns-in_err-extend_from_slice-clause-err c =
    let small : AreBytes c.args.name.now = bytes_from_fits _ (λ i. omega (arith, c.type_inv.name i)) in
    let so_far = c.loop-piece.invariant in
    on_err _ _ (front_added _ _ so_far.0 _ _ small (c.in_err-extend_from_slice.ensures.items ∙ so_far.1) so_far.2)

pub returns-clause-ok : goal.returns-clause-ok
returns-clause-ok c =
    let small : AreBytes c.args.name.now = bytes_from_fits _ (λ i. omega (arith, c.type_inv.name i)) in
    let so_far = c.loop-piece.invariant in
    all_added _ _ so_far.0 _ _ small so_far.1 so_far.2 c.in-None.ensures.steps
