use Rattle.std.proofs.Common.{sym, ap, subst, ◌∙◌, length, take, arith}
use Rattle.gob_bytes.specs.Tables.{names_of, IsInByteOrder}
use Rattle.gob_memory.specs.Places.{StandsAt, GoesAt}
use Rattle.gob_io.proofs.Listed.{rising_held}
use Rattle.gob_io.proofs.Sorting.{front_stays, sorts_there, sorts_new, NextFits}
use Rattle.gob_io.proofs.by_name.sort_by_name.Goals as goal

pub find-requires : goal.find-requires
find-requires c =
    let front = front_stays c.loop-done.invariant (c.deref.ensures.value ∙ c.remove-name.ensures.items) in
    subst (λ t. IsInByteOrder (names_of t)) (sym front) (rising_held _ c.loop-done.invariant.listed)

pub loop-done-preserved-in-Ok : goal.loop-done-preserved-in-Ok
loop-done-preserved-in-Ok c =
    let items = c.loop-done.parts.items in
    let done = c.loop-done.done in
    let front = front_stays c.loop-done.invariant (c.deref.ensures.value ∙ c.remove-name.ensures.items) in
    let next : NextFits items done c.remove-name.result.0 c.remove-name.result.1 = record {
      here = omega arith;
      next = c.remove-name.ensures.value;
      fits = omega (arith, ap length c.as_slice.ensures);
    } in
    let stands : StandsAt (take done items) c.remove-name.result.0 c.in-Ok.place =
    rw (front, c.as_str.ensures) at c.in-Ok.ensures in
    rw c.remove-name.ensures.items (sorts_there c.args.parts.items items done c.in-Ok.place c.remove-name.result.0
    c.remove-name.result.1 c.loop-done.invariant next stands)

pub loop-done-preserved : goal.loop-done-preserved
loop-done-preserved c =
    let items = c.loop-done.parts.items in
    let done = c.loop-done.done in
    let front = front_stays c.loop-done.invariant (c.deref.ensures.value ∙ c.remove-name.ensures.items) in
    let next : NextFits items done c.remove-name.result.0 c.remove-name.result.1 = record {
      here = omega arith;
      next = c.remove-name.ensures.value;
      fits = omega (arith, ap length c.as_slice.ensures);
    } in
    let goes : GoesAt (take done items) c.remove-name.result.0 c.in-Err.place =
    rw (front, c.as_str.ensures) at c.in-Err.ensures in
    rw (c.in_default.ensures.items, c.remove-name.ensures.items)
    (sorts_new c.args.parts.items items done c.in-Err.place c.remove-name.result.0 c.remove-name.result.1
    c.loop-done.invariant next goes)
