use Rattle.std.proofs.Common.{◌≡◌, ◌∙◌, ◌<◌, ◌≤◌, ◌-◌, ◌+◌, ◌++◌, ℕ, suc, min, sym, ap, arith, length, subst, get_or}
use Rattle.std.specs.List.{range_with_len}
use Rattle.gob_sched.specs.CoreValue.{CoreValue, after_turn}
use Rattle.gob_sched.proofs.Rising.{AreActive, next_left, next_one, others, others_of_left, without_one}
use Rattle.gob_sched.proofs.turns.Core.task_ended.Goals as goal

pub invariant_of-self-inside : goal.invariant_of-self-inside
invariant_of-self-inside c =
    let s = c.self.inside in
    let waits : s.waiting < s.units = c.if-self.true in
    let rest : ℕ = s.units - (s.waiting + 1) in
    let filled = s.filled in
    let are : AreActive s.rules.slots s.active.items s.waiting (rest + 1) = record {
      rising = s.rising;
      filled =
          omega (arith, filled, waits);
    } in
    let within : c.place_of-at.result < length s.active.items =
    subst (λ xs. c.place_of-at.result < length xs) c.as_slice.ensures.value c.place_of-at.ensures.within in
    let next = next_one s.rules.slots s.active.items c.remove.new.self.items c.push.new.self.items s.waiting rest
    c.place_of-at.result are within c.remove.ensures.items c.in-Ok.ensures.items in
    (s.in_schedule, (next.rising, (omega (arith, waits), (next.filled, tt))))

pub invariant_of-self-inside-else-self : goal.invariant_of-self-inside-else-self
invariant_of-self-inside-else-self c =
    let s = c.self.inside in
    let none : s.units ≤ s.waiting = c.if-self.false in
    let filled = s.filled in
    let are : AreActive s.rules.slots s.active.items s.waiting 0 = record {
      rising = s.rising;
      filled =
          omega (arith, filled, none);
    } in
    let within : c.place_of-at.result < length s.active.items =
    subst (λ xs. c.place_of-at.result < length xs) c.as_slice.ensures.value c.place_of-at.ensures.within in
    let left = without_one s.rules.slots s.active.items c.remove.new.self.items s.waiting c.place_of-at.result are
    within c.remove.ensures.items in
    let longer = left.filled in
    (s.in_schedule, (left.rising, (s.within, (omega (arith, longer, none), tt))))

pub returns-in-Ok : goal.returns-in-Ok
returns-in-Ok c =
    let s = c.self.inside in
    let unit = c.args.unit in
    let waits : s.waiting < s.units = c.if-self.true in
    let rest : ℕ = s.units - (s.waiting + 1) in
    let one_more : suc rest ≡ s.units - s.waiting = omega (arith, waits) in
    let within : c.place_of-at.result < length s.active.items =
    subst (λ xs. c.place_of-at.result < length xs) c.as_slice.ensures.value c.place_of-at.ensures.within in
    let named : get_or s.active.items c.place_of-at.result 0 ≡ unit =
    subst (λ xs. get_or xs c.place_of-at.result 0 ≡ unit) c.as_slice.ensures.value c.place_of-at.ensures.unit in
    let lefts : c.push.new.self.items ++ range_with_len (s.waiting + 1) rest ≡ others unit
    (s.active.items ++ range_with_len s.waiting (s.units - s.waiting)) =
    next_left c.remove.new.self.items c.push.new.self.items s.waiting rest c.in-Ok.ensures.items
    ∙ (ap (λ n. c.remove.new.self.items ++ range_with_len s.waiting n) one_more
    ∙ others_of_left unit s.active.items c.remove.new.self.items s.waiting (s.units - s.waiting)
    c.place_of-at.result s.rising within named c.remove.ensures.items) in
    ap {B = CoreValue} (λ us. record { rules = s.rules; place = s.place; left = us }) lefts
    ∙ ap {B = CoreValue} (λ v. record v { left = others unit v.left }) (c.self.view_is ∙ c.turn_done.ensures)

pub returns-else-self : goal.returns-else-self
returns-else-self c =
    let s = c.self.inside in
    let unit = c.args.unit in
    let within : c.place_of-at.result < length s.active.items =
    subst (λ xs. c.place_of-at.result < length xs) c.as_slice.ensures.value c.place_of-at.ensures.within in
    let named : get_or s.active.items c.place_of-at.result 0 ≡ unit =
    subst (λ xs. get_or xs c.place_of-at.result 0 ≡ unit) c.as_slice.ensures.value c.place_of-at.ensures.unit in
    let lefts = others_of_left unit s.active.items c.remove.new.self.items s.waiting (s.units - s.waiting)
    c.place_of-at.result s.rising within named c.remove.ensures.items in
    ap {B = CoreValue} (λ us. record { rules = s.rules; place = s.place; left = us }) lefts
    ∙ ap {B = CoreValue} (λ v. record v { left = others unit v.left }) (c.self.view_is ∙ c.turn_done.ensures)
