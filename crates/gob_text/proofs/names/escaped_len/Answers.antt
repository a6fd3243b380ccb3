use Rattle.std.proofs.Common.{◌≡◌, cond, length, [], sym, ap, ◌∙◌, arith}
use Rattle.gob_bytes.specs.Escapes.{escape_of}
use Rattle.gob_text.proofs.EscapedLength.{escaped_none, escaped_step}
use Rattle.gob_text.proofs.names.escaped_len.Goals as goal
use Rattle.gob_text.proofs.names.escaped_len.Goals.{then-is_plain, else-is_plain}

pub loop-byte-init : goal.loop-byte-init
loop-byte-init c = let none : length (escape_of []) ≡ 0 = escaped_none in omega arith

pub loop-byte-preserved : goal.loop-byte-preserved
loop-byte-preserved c =
    escaped_step c.args.name.now c.as_bytes-byte-items.result.now c.loop-byte.byte-index c.loop-byte.len
    c.if-is_plain.saturating_add c.saturating_add-len.result c.is_plain.result
    c.as_bytes-byte-items.ensures.value (omega arith) c.loop-byte.invariant c.is_plain.ensures
    (elim c.if-is_plain.branch [
      | then-is_plain w ↦ w.saturating_add-is ∙ sym (ap (λ v. cond v 1 3) w.if-is_plain.true)
      | else-is_plain w ↦ w.saturating_add-is ∙ sym (ap (λ v. cond v 1 3) w.if-is_plain.false)
    ])
    (omega arith)
