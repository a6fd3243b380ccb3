use Rattle.std.proofs.Common.{Some, sym, ap, ◌∙◌, arith}
use Rattle.gob_props.proofs.EscapeLemmas.{code_unit-short, code_unit-read, digit_bad}
use Rattle.gob_props.proofs.entry.code_unit.Goals as goal

pub returns-in_default-clause-value : goal.returns-in_default-clause-value
returns-in_default-clause-value c = sym (code_unit-short c.args.text.now (omega (arith, c.in_default.len_below)))

pub returns-in_err-to_digit-clause-value : goal.returns-in_err-to_digit-clause-value
returns-in_err-to_digit-clause-value c = c.from_residual.ensures
    ∙ digit_bad c.args.text.now 0 c.a-item.result c.in-len4-up.len_at_least
    (omega arith) c.a-item.is c.in_err-to_digit.ensures.value

pub returns-in_err-high-clause-value : goal.returns-in_err-high-clause-value
returns-in_err-high-clause-value c = c.from_residual-in_err-high.ensures
    ∙ digit_bad c.args.text.now 1 c.b-item.result c.in-len4-up.len_at_least
    (omega arith) c.b-item.is c.in_err-high.ensures.value

pub returns-in_err-to_digit-2-clause-value : goal.returns-in_err-to_digit-2-clause-value
returns-in_err-to_digit-2-clause-value c = c.from_residual-in_err-to_digit-2.ensures
    ∙ digit_bad c.args.text.now 2 c.c-item.result c.in-len4-up.len_at_least
    (omega arith) c.c-item.is c.in_err-to_digit-2.ensures.value

pub returns-in_err-low-clause-value : goal.returns-in_err-low-clause-value
returns-in_err-low-clause-value c = c.from_residual-in_err-low.ensures
    ∙ digit_bad c.args.text.now 3 c.d-item.result c.in-len4-up.len_at_least
    (omega arith) c.d-item.is c.in_err-low.ensures.value

pub returns-clause-value : goal.returns-clause-value
returns-clause-value c =
    let read =
    code_unit-read c.args.text.now c.a-item.result c.b-item.result c.c-item.result c.d-item.result
    c.in-len4-up.len_at_least c.a-item.is c.b-item.is c.c-item.is c.d-item.is c.in_ok-to_digit.ensures.value.0
    c.in_ok-high.ensures.value.0 c.in_ok-to_digit-2.ensures.value.0 c.in_ok-low.ensures.value.0 in
    ap Some (omega (
      arith,
      c.in_ok-to_digit.ensures.value.1,
      c.in_ok-high.ensures.value.1,
      c.in_ok-to_digit-2.ensures.value.1,
      c.in_ok-low.ensures.value.1,
    )) ∙ sym read
