use Rattle.std.proofs.Common.{◌≡◌, ◌++◌, ◌∷◌, [], ℕ, List, sym, ap, subst, ◌∙◌, arith}
use Rattle.std.proofs.lemmas.List.Elements.{All-push, All-same}
use Rattle.std.specs.Str.{IsUtf8}
use Rattle.gob_ledger.specs.Units.{is_kept}
use Rattle.gob_cut.proofs.Listed.{fails, passes}
use Rattle.gob_cut.proofs.listing.kept_parts.Goals as goal
use Rattle.gob_cut.proofs.listing.kept_parts.Goals.{then-is_kept+in_ok-name+in_ok-push, else-is_kept}

pub loop-part-preserved : goal.loop-part-preserved
loop-part-preserved c =
    let inv = c.loop-part.invariant in
    let part = c.part-item.result in
    let before = c.loop-part.kept.items in
    let after = c.if-is_kept.kept.items in
    let test : is_kept c.args.limits.now part.name ≡ c.is_kept.result = ap (is_kept c.args.limits.now)
    (sym c.as_str.ensures) ∙ sym c.is_kept.ensures.kept in
    let text : IsUtf8 part.name = subst IsUtf8 c.as_str.ensures c.is_kept.ensures.text in
    record {
      kept = elim c.if-is_kept.branch [
        | then-is_kept+in_ok-name+in_ok-push w ↦ passes (λ e. is_kept c.args.limits.now e.0) c.args.parts.now
            c.loop-part.part-index part before after
            (omega arith) c.part-item.is (test ∙ w.if-is_kept.true)
            (ap (λ v. v.items) w.kept-is ∙ (w.in_ok-push.ensures.items ∙ ap
            (λ (n : List ℕ). before ++ (n, part.size) ∷ []) w.in_ok-name.ensures)) inv.kept
        | else-is_kept w ↦ ap (λ v. v.items) w.kept-is
            ∙ fails (λ e. is_kept c.args.limits.now e.0) c.args.parts.now c.loop-part.part-index part before
            (omega arith) c.part-item.is (test ∙ w.if-is_kept.false) inv.kept
      ];
      texts = elim c.if-is_kept.branch [
        | then-is_kept+in_ok-name+in_ok-push w ↦ All-same (λ e. IsUtf8 e.0) after
            (before ++ (part.name, part.size) ∷ [])
            (ap (λ v. v.items) w.kept-is ∙ (w.in_ok-push.ensures.items ∙ ap
            (λ (n : List ℕ). before ++ (n, part.size) ∷ []) w.in_ok-name.ensures))
            (All-push (λ e. IsUtf8 e.0) before (part.name, part.size) inv.texts text)
        | else-is_kept w ↦ All-same (λ e. IsUtf8 e.0) after before (ap (λ v. v.items) w.kept-is) inv.texts
      ];
    }
