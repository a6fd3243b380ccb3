use Rattle.std.proofs.Common.{◌≡◌, ◌+◌, ◌++◌, ◌<◌, ◌≤◌, [], refl, sym, subst, ◌∙◌, drop, get_or, length, arith}
use Rattle.std.proofs.lemmas.List.{length-drop, nil_from_length}
use Rattle.std.proofs.lemmas.List.Elements.{All-nil, All-same, recursion_from_All}
use Rattle.gob_cut.specs.declared.rounds.Cursor.{Cursor}
use Rattle.gob_cut.specs.Going.{Goes}
use Rattle.gob_cut.specs.Rounds.{IsCursor}
use Rattle.gob_cut.proofs.Going.{added_one, goes_first, goes_less, goes_step}
use Rattle.gob_cut.proofs.Taking.{EndsAt, TakesRounds, cursors_on, inside_fits, many_on, next_cursor, round_done}
use Rattle.gob_cut.proofs.Taking.{round_first, round_full, round_step}
use Rattle.gob_cut.proofs.rounds.round.Goals as goal

pub loop-cursor-init : goal.loop-cursor-init
loop-cursor-init g c =
    let kept = c.args.kept.now in
    let none : c.new-going.result.items ≡ [] = c.new-going.ensures.items in
    record {
      few = subst (λ gs. length gs ≤ c.args.most) (sym none) (omega arith);
      cursors = All-same (IsCursor kept) c.new-going.result.items [] none (All-nil (IsCursor kept));
      room = c.requires.room;
      supply = refl;
      faults = omega arith;
      planned = omega arith;
      goes = subst (λ gs. Goes kept c.args.cursors.now (gs ++ c.args.cursors.now) c.args.units.now c.args.units.now)
          (sym none)
          (goes_first kept c.args.cursors.now c.args.units.now
          (recursion_from_All (IsCursor kept) c.args.cursors.now c.requires.cursors) c.requires.apart);
      count = subst (λ gs. length c.args.units.now ≡ length c.args.units.now + length gs) (sym none) (omega arith);
      units = subst (λ gs. TakesRounds (g.S.Source.supply c.args.source.now) kept c.args.max c.args.most
          c.args.cursors.now gs c.args.cursors.now c.args.units.now c.args.units.now) (sym none)
          (round_first (g.S.Source.supply c.args.source.now) kept c.args.max c.args.most c.args.cursors.now
          c.args.units.now);
    }

pub returns-then-len-most-clause-units : goal.returns-then-len-most-clause-units
returns-then-len-most-clause-units g c =
    round_full (g.S.Source.supply c.args.source.now) c.args.kept.now c.args.max c.args.most c.args.cursors.now
    c.loop-cursor.going.items (drop c.loop-cursor.cursor-index c.args.cursors.now) c.args.units.now
    c.loop-cursor.units
    (omega arith) c.loop-cursor.invariant.units

pub returns-then-len-most-clause-goes : goal.returns-then-len-most-clause-goes
returns-then-len-most-clause-goes g c =
    goes_less c.args.kept.now c.args.cursors.now c.loop-cursor.going.items
    (drop c.loop-cursor.cursor-index c.args.cursors.now) c.args.units.now c.loop-cursor.units
    c.loop-cursor.invariant.goes

pub returns-clause-units : goal.returns-clause-units
returns-clause-units g c =
    let later = drop c.loop-cursor.cursor-index c.args.cursors.now in
    let none : length later ≡ 0 = omega (arith, length-drop c.loop-cursor.cursor-index c.args.cursors.now) in
    round_done (g.S.Source.supply c.args.source.now) c.args.kept.now c.args.max c.args.most c.args.cursors.now
    c.loop-cursor.going.items later c.args.units.now c.loop-cursor.units
    (nil_from_length later none) c.loop-cursor.invariant.units

pub returns-clause-goes : goal.returns-clause-goes
returns-clause-goes g c =
    goes_less c.args.kept.now c.args.cursors.now c.loop-cursor.going.items
    (drop c.loop-cursor.cursor-index c.args.cursors.now) c.args.units.now c.loop-cursor.units
    c.loop-cursor.invariant.goes

pub loop-cursor-preserved : goal.loop-cursor-preserved
loop-cursor-preserved g c =
    let inv = c.loop-cursor.invariant in
    let kept = c.args.kept.now in
    let cursors = c.args.cursors.now in
    let i = c.loop-cursor.cursor-index in
    let none : Cursor = record { place = 0; at = 0 } in
    let cursor : Cursor = get_or cursors i none in
    let e = c.index-kept-cursor.result in
    let end = c.in_ok-end.end in
    let going = c.loop-cursor.going.items in
    let on = c.add_cut.new.going.items in
    let within : cursor.place < length kept = (c.requires.cursors i none (omega arith)).place in
    let below : length going < c.args.most = omega arith in
    let now = g.S.Source.supply c.loop-cursor.source in
    record {
      few = many_on going on cursor.place c.args.most end below c.in_ok-add_cut.ensures.going;
      cursors = cursors_on kept going on cursor.place e end within c.index-kept-cursor.is
          (inside_fits end cursor.at e.1 c.in_ok-end.ensures.inside) c.in_ok-add_cut.ensures.going inv.cursors;
      room = omega (arith, inv.room, c.next_end.auto.window);
      supply = c.in_ok-end.ensures.supply ∙ inv.supply;
      faults = omega (arith, c.in_ok-end.ensures.cause.later, inv.faults);
      planned = omega (arith, c.in_ok-end.ensures.planned.later, inv.planned);
      goes = goes_step kept cursors going (drop i cursors) (drop (i + 1) cursors) on cursor e end c.args.units.now
          c.loop-cursor.units c.add_cut.new.units
          c.requires.rising (next_cursor cursors i none (omega arith)) c.index-kept-cursor.is within
          c.in_ok-end.ensures.inside
          c.in_ok-add_cut.ensures.units c.in_ok-add_cut.ensures.going inv.goes;
      count = added_one going on c.args.units.now c.loop-cursor.units c.add_cut.new.units e.0 cursor.place cursor.at end
          c.in_ok-add_cut.ensures.units c.in_ok-add_cut.ensures.going inv.count;
      units = round_step (g.S.Source.supply c.args.source.now) now kept c.args.max c.args.most cursors going
          (drop i cursors) (drop (i + 1) cursors) on c.args.units.now c.loop-cursor.units c.add_cut.new.units cursor e
          end
          inv.supply
          (record { next = next_cursor cursors i none (omega arith); entry = c.index-kept-cursor.is; place = within })
          (subst (λ n. EndsAt now n e.1 cursor.at c.args.max end) c.as_str.ensures c.in_ok-end.ensures.end)
          below c.in_ok-add_cut.ensures.units c.in_ok-add_cut.ensures.going inv.units;
    }
