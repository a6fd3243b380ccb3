use Rattle.std.proofs.Common.{◌≡◌, ◌++◌, sym, ap, ◌∙◌, arith, length, length-append}
use lib.Utf8.{encode}
use Rattle.std.proofs.lemmas.Str.{chars_past_char, length-encode, len_utf8_bounds}
use Rattle.gob_plan.proofs.like.split_first.Goals as goal

pub returns : goal.returns
returns c =
    let first = c.in_ok-first.first in
    let rest = c.as_str.result.now in
    let is : c.args.text.now ≡ encode first ++ rest =
    sym c.char_indices-characters.ensures.rest ∙ c.in_ok-first.ensures.steps.1
    ∙ ap (λ l. encode first ++ l) (sym c.as_str.ensures) in
    let width = len_utf8_bounds first in (
      chars_past_char c.args.text.now rest first c.utf8.text is,
      omega (arith, ap length is, length-append (encode first) rest, length-encode first, width.0),
    )
