use Rattle.std.proofs.Common.{◌≡◌, ◌∙◌, ◌-◌, ◌<◌, ◌≤◌, true, min, sym, ap, subst, length, arith}
use Rattle.std.specs.List.{range_with_len}
use Rattle.gob_sched.specs.CoreValue.{CoreValue, is_rising_below}
use Rattle.gob_sched.proofs.Rising.{all_units, first_units_active}
use Rattle.gob_sched.proofs.turns.Core.start.Goals as goal

pub invariant_of-result : goal.invariant_of-result
invariant_of-result c =
    let slots = c.in_ok-rules.rules.slots in
    let units = c.args.units in
    let items = c.in_ok-active.active.items in
    let first : c.min-first.result ≡ min units slots = c.min-first.ensures in
    let are = first_units_active slots units items (c.in_ok-active.ensures ∙ ap (range_with_len 0) first) in
    let filled = are.filled in (
      subst (λ r. 0 < length r.schedule) (sym c.in_ok-rules.ensures) c.requires.schedule,
      (
        subst (λ w. is_rising_below items w ≡ true) (sym first) are.rising,
        (omega (arith, first), (omega (arith, first, filled), tt)),
      ),
    )

pub returns : goal.returns
returns c =
    let rules = c.in_ok-rules.rules in
    let units = c.args.units in
    let first : c.min-first.result ≡ min units rules.slots = c.min-first.ensures in
    let within : c.min-first.result ≤ units = omega (arith, first) in
    let lefts = all_units units c.min-first.result c.in_ok-active.active.items within c.in_ok-active.ensures in
    ap {B = CoreValue} (λ us. record { rules = rules; place = 0; left = us }) lefts
    ∙ ap {B = CoreValue} (λ r. record { rules = r; place = 0; left = range_with_len 0 units }) c.in_ok-rules.ensures
