use Rattle.std.proofs.Common.{take, drop, length, ◌∙◌, arith, length-append, length-drop}
use Rattle.std.proofs.lemmas.List.{length-take}
use Rattle.gob_cut.proofs.Looks.{first_found, first_none, first_passed, first_short}
use Rattle.gob_cut.proofs.ends.first_end.Goals as goal

pub returns-in-Some-clause-end : goal.returns-in-Some-clause-end
returns-in-Some-clause-end g c =
    let inv = c.loop-at.invariant in
    let len = c.min-len.result in
    first_found (g.S.Source.supply c.args.source.now) (g.S.Source.supply c.loop-at.source) c.args.part.now c.args.size
    c.args.lo c.loop-at.at len (length (take len c.loop-at.window)) c.in-Some.end c.in_ok-seen.found
    inv.supply inv.firsts c.in_ok-seen.ensures.end c.in-Some.is (omega (arith, length-take len c.loop-at.window))
    (omega arith)

pub returns-then-seen-len-clause-end : goal.returns-then-seen-len-clause-end
returns-then-seen-len-clause-end g c =
    let inv = c.loop-at.invariant in
    let len = c.min-len.result in
    first_short (g.S.Source.supply c.args.source.now) (g.S.Source.supply c.loop-at.source) c.args.part.now c.args.size
    c.args.lo c.loop-at.at len (length (take len c.loop-at.window)) c.in_ok-seen.seen
    inv.supply c.in_ok-seen.ensures.seen c.if-seen-len.true (omega (arith, length-take len c.loop-at.window))
    (omega arith)

pub loop-at-preserved : goal.loop-at-preserved
loop-at-preserved g c =
    let inv = c.loop-at.invariant in
    let len = c.min-len.result in
    record {
      low = omega (arith, inv.low);
      high = omega arith;
      room = omega (
        arith,
        inv.room,
        length-append c.look_for_first.new.window (drop len c.loop-at.window),
        length-drop len c.loop-at.window,
        length-take len c.loop-at.window,
        c.look_for_first.auto.window,
      );
      supply = c.in_ok-seen.ensures.supply ∙ inv.supply;
      faults = omega (arith, c.in_ok-seen.ensures.cause.later, inv.faults);
      planned = omega (arith, c.in_ok-seen.ensures.planned.later, inv.planned);
      firsts = first_passed (g.S.Source.supply c.args.source.now) (g.S.Source.supply c.loop-at.source) c.args.part.now
          c.args.size c.args.lo c.loop-at.at len (length (take len c.loop-at.window)) c.in_ok-seen.found
          inv.supply inv.firsts c.in_ok-seen.ensures.end c.in-None.is (omega (arith, length-take len c.loop-at.window))
          (omega arith);
    }

pub returns-clause-end : goal.returns-clause-end
returns-clause-end g c = first_none (g.S.Source.supply c.args.source.now) c.args.part.now c.args.size c.args.lo
    c.loop-at.at c.loop-at.invariant.firsts (omega arith)
