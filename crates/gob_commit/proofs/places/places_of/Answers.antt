use Rattle.std.proofs.Common.{◌∙◌, ap, sym, subst, arith, List, option_map, unwrap_or}
use Rattle.std.specs.declared.option.Option.{Option}
use Rattle.std.specs.BTreeMap.{is_at}
use Rattle.std.specs.Cmp.Lexicographic.{slice_cmp}
use Rattle.std.specs.Map.{lookup}
use Rattle.std.specs.Ordering.{nat_cmp}
use Rattle.std.proofs.lemmas.List.{take_all}
use Rattle.gob_seq.proofs.Once.{Name}
use Rattle.gob_plan.specs.declared.units.Unit.{Unit as WorkUnit}
use Rattle.gob_ledger.specs.Groups.{dataset_of}
use Rattle.gob_commit.specs.Groups.{PlacesAre}
use Rattle.gob_commit.proofs.Placing.{Places, placed_more}
use Rattle.gob_commit.proofs.places.places_of.Goals as goal

pub loop-i-init : goal.loop-i-init
loop-i-init c = record {
  ordered = c.new-datasets.ensures.ordered;
  at = λ q. ap (λ (es : List (Name × Places)). option_map (λ (p : Places). p.items)
      (lookup (is_at (λ (k : Name). slice_cmp nat_cmp q k.now)) es)) c.new-datasets.ensures.empty;
}

pub loop-i-preserved : goal.loop-i-preserved
loop-i-preserved c = record {
  ordered = c.in_ok-insert.ensures.ordered;
  at = placed_more c.args.units.now c.loop-i.i c.index-units-i.result c.loop-i.datasets c.remove.new.self
      c.insert.new.self c.dataset_of-dataset.result.now c.new-none.result c.unwrap_or-places.result c.push.new.self
      (omega arith) c.index-units-i.is c.loop-i.invariant.at (c.dataset_of-dataset.ensures
      ∙ ap dataset_of c.as_str.ensures
      ∙ ap (λ (u : WorkUnit). dataset_of u.part) (sym c.index-units-i.is))
      c.new-none.ensures.items c.remove.ensures.updates (c.unwrap_or-places.ensures
      ∙ ap (λ (o : Option Places). unwrap_or o c.new-none.result)
      c.remove.ensures.value)
      c.in_ok-push.ensures.items c.in_ok-insert.ensures.updates;
}

pub returns : goal.returns
returns c =
    subst (λ (us : List WorkUnit). PlacesAre us c.loop-i.datasets) (take_all c.loop-i.i c.args.units.now (omega arith))
    c.loop-i.invariant
