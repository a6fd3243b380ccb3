use Rattle.std.proofs.Common.{◌++◌, List, ℕ, sym, ap, ◌∙◌}
use Rattle.percent_encoding.specs.Iter.{decoded_bytes}
use Rattle.gob_bytes.specs.Escapes.{escape_of}
use Rattle.std.proofs.lemmas.Bool.{both_ways}
use Rattle.gob_text.proofs.Escaping.{no_spelling}
use Rattle.gob_text.proofs.names.unescape.Goals as goal

pub returns-else-is_spelled : goal.returns-else-is_spelled
returns-else-is_spelled c =
    let decoded = c.deref.ensures.value ∙ c.in_ok-append_to.ensures.ok
    ∙ ap (λ (x : List ℕ). x ++ decoded_bytes c.percent_decode.result) c.new-bytes.ensures.items
    ∙ c.percent_decode.ensures.bytes in
    no_spelling c.args.text.now
    (λ same. both_ways _ c.if-is_spelled.false (c.is_spelled.ensures.1 (same ∙ ap escape_of (sym decoded))))
