use Rattle.std.proofs.Common.{refl, None, codes}
use Rattle.gob_state.proofs.CountLemmas.{totals_pairing, totals_spelled}
use Rattle.gob_state.proofs.Steps.{behind_text, both_read, first_missing, second_missing}
use Rattle.gob_state.proofs.counts.take_totals.Goals as goal

pub returns-in_default : goal.returns-in_default
returns-in_default c = behind_text
    (codes "totals") _ _ _ _ None totals_spelled c.take_text.ensures c.if-not-take_text.false
    (first_missing totals_pairing _ c.take_four.new.text _ None None c.in_default.ensures refl refl)

pub returns-in_default-2 : goal.returns-in_default-2
returns-in_default-2 c = behind_text
    (codes "totals") _ _ _ _ None totals_spelled c.take_text.ensures c.if-not-take_text.false
    (second_missing totals_pairing _ c.take_four.new.text _ (
      c.in-Some.records,
      c.in-Some.bad,
      c.in-Some.rows,
      c.in-Some.unrouted,
    )
    c.in_ok-branches.field-0 None c.in-Some.ensures c.in_ok-branches.ensures c.in_default-2.is refl)

pub returns : goal.returns
returns c = behind_text (codes "totals") _ _ _ _ _ totals_spelled c.take_text.ensures c.if-not-take_text.false
    (both_read totals_pairing _ c.take_four.new.text _ (
      c.in-Some.records,
      c.in-Some.bad,
      c.in-Some.rows,
      c.in-Some.unrouted,
    )
    c.in-Some-2.branches c.in_ok-branches.field-0 _ c.in-Some.ensures c.in_ok-branches.ensures c.in-Some-2.is refl)
