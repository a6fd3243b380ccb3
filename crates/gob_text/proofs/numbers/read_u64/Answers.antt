use Rattle.std.proofs.Common.{◌≡◌, true, false, sym, ◌∙◌, subst}
use Rattle.std.specs.Char.{is_ascii_digit}
use Rattle.std.specs.List.{list_all}
use Rattle.std.specs.Str.Parse.{ParsesUnsigned}
use Rattle.gob_text.proofs.Numerals.{number_read-no_digits, number_read-spare, number_read-parsed, digits_utf8}
use Rattle.gob_text.proofs.numbers.read_u64.Goals as goal

pub returns-then-not-are_digits : goal.returns-then-not-are_digits
returns-then-not-are_digits c =
    let no' : list_all is_ascii_digit c.args.text.now ≡ false = cc in
    sym (number_read-no_digits c.args.text.now no')

pub returns-then-has_spare_zero : goal.returns-then-has_spare_zero
returns-then-has_spare_zero c =
    sym (number_read-spare c.args.text.now (sym c.has_spare_zero.ensures ∙ c.if-has_spare_zero.true))

pub returns-in-Ok : goal.returns-in-Ok
returns-in-Ok c =
    let digits : list_all is_ascii_digit c.args.text.now ≡ true = cc in
    let parsed = subst (λ bs. ParsesUnsigned 64 10 bs c.parse.result) c.in-Ok.ensures.cases.0 c.parse.ensures.value.0 in
    c.ok.ensures.value ∙ number_read-parsed c.args.text.now c.parse.result parsed digits
    (sym c.has_spare_zero.ensures ∙ c.if-has_spare_zero.false)

pub returns-in-Err : goal.returns-in-Err
returns-in-Err c =
    let digits : list_all is_ascii_digit c.args.text.now ≡ true = cc in
    absurd (c.in-Err.ensures.cases.0 (digits_utf8 c.args.text.now digits))
