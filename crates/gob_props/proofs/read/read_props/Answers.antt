use Rattle.std.proofs.Common.{sym, ap, ◌∙◌, inl, inr, ⊎_elim, chars}
use Rattle.std.proofs.lemmas.Bool.{cond-true, cond-false, false_from_ne_true}
use Rattle.std.proofs.lemmas.Str.{IsUtf8-from_is_utf8, is_utf8-from_IsUtf8}
use Rattle.gob_props.specs.Properties.{properties_of, read_text}
use Rattle.gob_props.proofs.read.read_props.Goals as goal

pub returns-in_default : goal.returns-in_default
unfolding properties_of
returns-in_default c =
    inr (sym (cond-false _ _ _
    (false_from_ne_true _ (λ valid. c.in_default.ensures.cases.0 (IsUtf8-from_is_utf8 c.args.bytes.now valid)))))

pub returns : goal.returns
unfolding properties_of
returns c =
    let bytes = c.args.bytes.now in
    let text = ap chars c.in-Ok.ensures.cases.0 in
    ⊎_elim (λ memory. inl memory)
    (λ read. inr
    (read ∙ ap read_text text
    ∙ sym (cond-true _ _ _ (is_utf8-from_IsUtf8 bytes c.in-Ok.ensures.cases.1)))) c.read_text.ensures
