use Rattle.std.proofs.Common.{◌≡◌, true, false, sym, ◌∙◌, subst, ap}
use mir.Syntax.{w64}
use Rattle.std.specs.Char.{is_ascii_digit}
use Rattle.std.specs.List.{list_all}
use Rattle.std.specs.Str.Parse.{ParsesSigned}
use Rattle.gob_text.proofs.Numerals.{integer_read-no_digits, integer_read-parsed, integer_utf8}
use Rattle.gob_text.proofs.numbers.read_i64.Goals as goal

pub returns-then-not-are_digits : goal.returns-then-not-are_digits
returns-then-not-are_digits c =
    let no' : list_all is_ascii_digit c.without_minus.result.now ≡ false = cc in
    sym (integer_read-no_digits c.args.text.now (ap (list_all is_ascii_digit) (sym c.without_minus.ensures) ∙ no'))

pub returns-in-Ok : goal.returns-in-Ok
returns-in-Ok c =
    let digits : list_all is_ascii_digit c.without_minus.result.now ≡ true = cc in
    let parsed = subst (λ bs. ParsesSigned w64 10 bs c.parse.result) c.in-Ok.ensures.cases.0 c.parse.ensures.value.0 in
    c.ok.ensures.value ∙ integer_read-parsed c.args.text.now c.parse.result parsed
    (ap (list_all is_ascii_digit) (sym c.without_minus.ensures) ∙ digits)

pub returns-in-Err : goal.returns-in-Err
returns-in-Err c =
    let digits : list_all is_ascii_digit c.without_minus.result.now ≡ true = cc in
    absurd (c.in-Err.ensures.cases.0
    (integer_utf8 c.args.text.now (ap (list_all is_ascii_digit) (sym c.without_minus.ensures) ∙ digits)))
