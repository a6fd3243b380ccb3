use Rattle.std.proofs.Common.{take, drop, length, ◌-◌, ◌∙◌, arith, length-append, length-drop}
use Rattle.std.proofs.lemmas.List.{length-take}
use Rattle.gob_cut.proofs.Looks.{last_found, last_none, last_passed}
use Rattle.gob_cut.proofs.ends.last_end.Goals as goal

pub returns-in-Some-clause-end : goal.returns-in-Some-clause-end
returns-in-Some-clause-end g c =
    let inv = c.loop-end.invariant in
    let len = c.min-len.result in
    let end = c.loop-end.end in
    last_found (g.S.Source.supply c.args.source.now) (g.S.Source.supply c.loop-end.source) c.args.part.now c.args.lo
    c.args.hi (end - len) len (length (take len c.loop-end.window)) end c.in-Some.at c.in_ok-found.found
    inv.supply inv.ends c.in_ok-found.ensures.end c.in-Some.is (omega (arith, length-take len c.loop-end.window))
    (omega arith) (omega arith) inv.high

pub loop-end-preserved : goal.loop-end-preserved
loop-end-preserved g c =
    let inv = c.loop-end.invariant in
    let len = c.min-len.result in
    let end = c.loop-end.end in
    record {
      low = omega arith;
      high = omega (arith, inv.high);
      room = omega (
        arith,
        inv.room,
        length-append c.look_for_last.new.window (drop len c.loop-end.window),
        length-drop len c.loop-end.window,
        length-take len c.loop-end.window,
        c.look_for_last.auto.window,
      );
      supply = c.in_ok-found.ensures.supply ∙ inv.supply;
      faults = omega (arith, c.in_ok-found.ensures.cause.later, inv.faults);
      planned = omega (arith, c.in_ok-found.ensures.planned.later, inv.planned);
      ends = last_passed (g.S.Source.supply c.args.source.now) (g.S.Source.supply c.loop-end.source) c.args.part.now
          c.args.lo c.args.hi (end - len) len (length (take len c.loop-end.window)) end c.in_ok-found.found
          inv.supply inv.ends c.in_ok-found.ensures.end c.in-None.is (omega (arith, length-take len c.loop-end.window))
          (omega arith) (omega arith) inv.high;
    }

pub returns-clause-end : goal.returns-clause-end
returns-clause-end g c = last_none (g.S.Source.supply c.args.source.now) c.args.part.now c.args.lo c.args.hi
    c.loop-end.end c.loop-end.invariant.ends (omega arith)
