use Rattle.std.proofs.Common.{◌≡◌, List, ℕ, ◌++◌, false, IsUtf8, rules, sym, ap, subst, ◌∙◌}
use Rattle.std.specs.Str.{bytes_eq}
use Rattle.gob_jobs.specs.Words.{empty_word}
use Rattle.std.proofs.lemmas.Str.{IsUtf8-string_bytes}
use Rattle.percent_encoding.specs.Iter.{decoded_bytes as bytes_decoded}
use Rattle.gob_job.proofs.Words.{decoded_text, decoded_bytes}
use Rattle.gob_job.proofs.cuts.value_word.Goals as goal

pub returns-in-Ok : goal.returns-in-Ok
returns-in-Ok c =
    let other : bytes_eq c.args.word.now empty_word ≡ false = search rules in
    let out = c.in_ok-append_to.ensures.ok ∙ ap (λ (x : List ℕ). x ++ bytes_decoded c.percent_decode.result)
    c.new-bytes.ensures.items ∙ c.percent_decode.ensures.bytes in
    decoded_text c.args.word.now _ other (c.from_string.ensures ∙ (ap (λ v. v.items) c.in-Ok.ensures.ok ∙ out))
    (subst IsUtf8 (sym c.from_string.ensures) (IsUtf8-string_bytes c.in-Ok.text))

pub returns : goal.returns
returns c =
    let other : bytes_eq c.args.word.now empty_word ≡ false = search rules in
    let out = c.in_ok-append_to.ensures.ok ∙ ap (λ (x : List ℕ). x ++ bytes_decoded c.percent_decode.result)
    c.new-bytes.ensures.items ∙ c.percent_decode.ensures.bytes in
    decoded_bytes c.args.word.now _ other out c.in-Err.ensures.succeeds
