use Rattle.std.proofs.Common.{◌≡◌, ◌∙◌, List, ℕ, Some, sym, ap, subst, true, false}
use Rattle.std.proofs.lemmas.Bool.{true≢false}
use Rattle.gob_recovery.specs.Sequence.{is_file_name}
use Rattle.gob_seq.specs.Reading.{NameTaken}
use Rattle.gob_seq.proofs.Lines.{file_utf8, name_taken, no_name, other_word}
use Rattle.gob_seq.proofs.read.take_file_name.Goals as goal

pub returns-in_default : goal.returns-in_default
returns-in_default c = no_name _ _ c.in_default.ensures

pub returns-in_default-from_utf8 : goal.returns-in_default-from_utf8
returns-in_default-from_utf8 c = other_word _ _ c.in-Some.word.now c.in-Some.ensures
    (λ named. c.in_default-from_utf8.ensures.cases.0 (file_utf8 c.in-Some.word.now named))

pub returns-then-not-is_file_name : goal.returns-then-not-is_file_name
returns-then-not-is_file_name c =
    let same = c.in-Ok.ensures.cases.0 in
    let no : is_file_name c.in-Some.word.now ≡ false =
    ap is_file_name (sym same) ∙ (sym c.is_file_name.ensures ∙ c.if-not-is_file_name.true) in
    other_word _ _ c.in-Some.word.now c.in-Some.ensures (λ named. true≢false (sym named ∙ no))

pub returns : goal.returns
returns c =
    let same = c.in-Ok.ensures.cases.0 in
    let yes : is_file_name c.in-Some.word.now ≡ true =
    ap is_file_name (sym same) ∙ (sym c.is_file_name.ensures ∙ c.if-not-is_file_name.false) in
    subst (λ (t : List ℕ). NameTaken c.args.words.now c.take_word.new.self (Some t))
    (sym (c.in_ok-from_str.ensures ∙ same))
    (name_taken _ _ c.in-Some.word.now c.in-Some.ensures yes)
