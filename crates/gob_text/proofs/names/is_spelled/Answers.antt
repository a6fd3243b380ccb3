use Rattle.std.proofs.Common.{◌≡◌, ◌++◌, List, ℕ, length, sym, ap, ◌∙◌, arith, append_assoc}
use Rattle.gob_bytes.specs.Escapes.{AreBytes}
use Rattle.std.proofs.lemmas.Bool.{false≢true, eqb-true, eq-eqb}
use Rattle.gob_text.proofs.Fronts.{empty_if}
use Rattle.gob_text.proofs.Escaping.{spelled_more, spelled_not, spelled_end, bytes_from_fits}
use Rattle.gob_text.proofs.names.is_spelled.Goals as goal

pub loop-piece-preserved : goal.loop-piece-preserved
loop-piece-preserved c =
    let so_far = c.loop-piece.invariant in
    let front = c.in-Some-after_front.ensures
    ∙ ap (λ x. x ++ c.in-Some-after_front.rest.now) c.as_bytes.ensures.value in (
      so_far.0 ++ c.in-Some.piece.now,
      so_far.1 ∙ ap (λ x. so_far.0 ++ x) front
          ∙ sym (append_assoc so_far.0 _ _),
      spelled_more so_far.0 _ _ _ _ so_far.2 c.in-Some.ensures.steps,
    )

pub returns-in-None-after_front : goal.returns-in-None-after_front
returns-in-None-after_front c =
    let small : AreBytes c.args.name.now = bytes_from_fits _ (λ i. omega (arith, c.type_inv.name i)) in
    let so_far = c.loop-piece.invariant in
    let never : (after : List ℕ) → c.loop-piece.text.now ≡ c.in-Some.piece.now ++ after →
    ⊥ = λ after same. c.in-None-after_front.ensures after
    (same ∙ ap (λ x. x ++ after) (sym c.as_bytes.ensures.value)) in (
      λ e. absurd (false≢true e),
      λ same. absurd
          (spelled_not c.args.text.now so_far.0 c.loop-piece.text.now _ c.in-Some.piece.now _ c.args.name.now small
          so_far.1 so_far.2 c.in-Some.ensures.steps never same),
    )

pub returns : goal.returns
returns c =
    let small : AreBytes c.args.name.now = bytes_from_fits _ (λ i. omega (arith, c.type_inv.name i)) in
    let so_far = c.loop-piece.invariant in
    let ends =
    spelled_end c.args.text.now so_far.0 c.loop-piece.text.now _ c.args.name.now small so_far.1 so_far.2
    c.in-None.ensures.steps in (
      λ e. ends.0 (empty_if _ (eqb-true _ 0 (sym c.is_empty.ensures ∙ e))),
      λ same. c.is_empty.ensures ∙ eq-eqb _ 0 (ap length (ends.1 same)),
    )
