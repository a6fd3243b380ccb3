use Rattle.std.proofs.Common.{◌≡◌, ◌≢◌, List, ℕ, arith, sym, ◌∙◌, length, subst, String, Global, MatchOption, Option}
use Rattle.std.proofs.Common.{string_bytes}
use Rattle.std.proofs.lemmas.Bool.{eqb-true, eqb-false}
use Rattle.gob_bytes.specs.Escapes.{escape_of}
use Rattle.gob_text.specs.Words.{IsName}
use Rattle.gob_text.proofs.Splits.{name_some, name_from, no_name}
use Rattle.gob_text.proofs.words.name_of.Goals as goal

pub returns-then-is_empty : goal.returns-then-is_empty
returns-then-is_empty c = name_some c.args.word.now (eqb-true _ 0 (sym c.is_empty.ensures ∙ c.if-is_empty.true))

pub returns-in-Some : goal.returns-in-Some
returns-in-Some c =
    let found = rw c.in-Some.is at c.in_ok-bytes.ensures in
    let full = eqb-false (length c.args.word.now) 0 (sym c.is_empty.ensures ∙ c.if-is_empty.false) in
    subst (λ (r : Option (String Global)). MatchOption r
    ((name : List ℕ) → IsName name → escape_of name ≢ c.args.word.now)
    (λ name. IsName (string_bytes name) × (escape_of (string_bytes name) ≡ c.args.word.now)))
    (sym c.ok.ensures.value)
    (name_from c.args.word.now c.in-Some.bytes c.from_utf8.result
    (omega arith) found.0 found.1 c.from_utf8.ensures.ok c.from_utf8.ensures.succeeds)

pub returns-in-None : goal.returns-in-None
returns-in-None c = no_name c.args.word.now (rw c.in-None.is at c.in_ok-bytes.ensures)
