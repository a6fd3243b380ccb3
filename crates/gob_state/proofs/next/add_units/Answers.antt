use Rattle.std.proofs.Common.{◌≡◌, ◌<◌, ◌+◌, sym, subst, arith}
use Rattle.gob_ledger.specs.Next.{with_owed}
use Rattle.gob_marks.specs.Changed.{change_marks, marks_in, next_span}
use Rattle.gob_state.proofs.NextLemmas.{Adding, fresh_added, fresh_begins, old_added}
use Rattle.gob_state.proofs.next.add_units.Goals as goal
use Rattle.gob_state.proofs.next.add_units.Goals.{then-unit+in_ok-add_open, else-unit}

pub add_open-requires : goal.add_open-requires
add_open-requires c =
    let r = fresh_begins c.args.marks.now c.loop-unit.marks c.args.units.now c.loop-unit.unit-index c.unit-item.result
    c.loop-unit.invariant c.loop-unit-test.true c.unit-item.is c.if-unit.true in
    let some : (marks_in c.loop-unit.marks c.unit-item.result.part).next < c.unit-item.result.hi =
    let a = r.0 in let b = r.1 in omega arith in
    subst (λ p. (marks_in c.loop-unit.marks p).next < c.unit-item.result.hi) (sym c.as_str.ensures) some

pub loop-unit-preserved : goal.loop-unit-preserved
loop-unit-preserved c = elim c.if-unit.branch [
  | then-unit+in_ok-add_open w ↦
      subst (λ t. Adding c.args.marks.now t c.args.units.now (c.loop-unit.unit-index + 1)) (sym w.marks-is)
      (fresh_added c.args.marks.now c.loop-unit.marks w.add_open.new.self c.args.units.now c.loop-unit.unit-index
      c.unit-item.result c.loop-unit.invariant c.loop-unit-test.true c.unit-item.is w.if-unit.true
      (subst (λ p. w.add_open.new.self ≡ change_marks (with_owed (next_span (marks_in c.loop-unit.marks p)
      c.unit-item.result.hi)) p c.loop-unit.marks) w.as_str.ensures w.in_ok-add_open.ensures.ok))
  | else-unit w ↦
      subst (λ t. Adding c.args.marks.now t c.args.units.now (c.loop-unit.unit-index + 1)) (sym w.marks-is)
      (old_added c.args.marks.now c.loop-unit.marks c.args.units.now c.loop-unit.unit-index c.unit-item.result
      c.loop-unit.invariant c.loop-unit-test.true c.unit-item.is w.if-unit.false)
]
