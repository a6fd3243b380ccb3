use Rattle.std.proofs.Common.{◌≡◌, inr, [], length, refl, subst, ◌∙◌, arith, rules}
use Rattle.std.proofs.lemmas.List.{nil_from_length}
use Rattle.std.proofs.lemmas.List.Elements.{recursion_from_All}
use Rattle.gob_cut.specs.Going.{Goes}
use Rattle.gob_cut.specs.Rounds.{IsCursor}
use Rattle.gob_cut.proofs.Going.{goes_first, goes_less, goes_then}
use Rattle.gob_cut.proofs.Taking.{rounds_done, rounds_first, rounds_then}
use Rattle.gob_cut.proofs.rounds.add_rounds.Goals as goal

pub loop-alloc-init : goal.loop-alloc-init
loop-alloc-init g c = record {
  cursors = c.requires.cursors;
  room = c.requires.room;
  supply = refl;
  faults = omega arith;
  planned = omega arith;
  goes = goes_first c.args.kept.now c.args.cursors.items c.args.units.now
      (recursion_from_All (IsCursor c.args.kept.now) c.args.cursors.items c.requires.cursors) c.requires.apart;
  count = refl;
  units = rounds_first (g.S.Source.supply c.args.source.now) c.args.kept.now c.args.max c.args.most c.args.cursors.items
      c.args.units.now;
}

pub loop-alloc-preserved : goal.loop-alloc-preserved
loop-alloc-preserved g c =
    let inv = c.loop-alloc.invariant in
    let counted : c.len-left.result ≡ length c.in_ok-next.next.items = search rules in
    record {
      cursors = c.in_ok-next.ensures.cursors;
      room = omega (arith, inv.room, c.round.auto.window);
      supply = c.in_ok-next.ensures.supply ∙ inv.supply;
      faults = omega (arith, c.in_ok-next.ensures.cause.later, inv.faults);
      planned = omega (arith, c.in_ok-next.ensures.planned.later, inv.planned);
      goes = goes_then c.args.kept.now c.args.cursors.items c.loop-alloc.going.items c.in_ok-next.next.items
          c.args.units.now c.loop-alloc.units c.round.new.units inv.goes
          (subst (λ cs. Goes c.args.kept.now cs c.in_ok-next.next.items c.loop-alloc.units c.round.new.units)
          c.as_slice.ensures.value c.in_ok-next.ensures.goes);
      count = omega (arith, inv.count, c.in_ok-next.ensures.count, c.in_ok-next.ensures.few, counted);
      units = rounds_then (g.S.Source.supply c.args.source.now) (g.S.Source.supply c.loop-alloc.source) c.args.kept.now
          c.args.max c.args.most c.loop-alloc.left c.len-left.result c.args.cursors.items
          c.loop-alloc.going.items c.as_slice.result.now c.in_ok-next.next.items c.args.units.now c.loop-alloc.units
          c.round.new.units
          inv.supply c.as_slice.ensures.value counted c.in_ok-next.ensures.units inv.units;
    }

pub returns-clause-units : goal.returns-clause-units
returns-clause-units g c =
    let none : length c.loop-alloc.going.items ≡ 0 = first_of (omega arith, search rules) in
    rounds_done (g.S.Source.supply c.args.source.now) c.args.kept.now c.args.max c.args.most c.loop-alloc.left
    c.args.cursors.items c.loop-alloc.going.items c.args.units.now c.loop-alloc.units
    (inr (nil_from_length c.loop-alloc.going.items none)) c.loop-alloc.invariant.units

pub returns-clause-goes : goal.returns-clause-goes
returns-clause-goes g c =
    goes_less c.args.kept.now c.args.cursors.items [] c.loop-alloc.going.items c.args.units.now c.loop-alloc.units
    c.loop-alloc.invariant.goes
