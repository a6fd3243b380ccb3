use Rattle.std.proofs.Common.{◌≡◌, ◌+◌, ◌++◌, [], ◌∷◌, true, get_or, set, drop, refl, sym, ap, ◌∙◌}
use Rattle.std.specs.List.{list_all}
use Rattle.std.proofs.lemmas.List.{length-set}
use Rattle.gob_plan.specs.declared.rows.Value.TheVariants as value
use Rattle.gob_steps.specs.Places.{is_below, values_at}
use Rattle.gob_steps.proofs.Picking.{next_place, taken}
use Rattle.gob_steps.proofs.rows.picked.Goals as goal

pub loop-place-preserved : goal.loop-place-preserved
loop-place-preserved c =
    let l = c.loop-place in
    let places = c.args.places.now in
    let i = l.place-index in
    let k = get_or places i 0 in
    let values = l.values.items in
    let w = c.replace.new.dest in
    let rest = drop (i + 1) places in
    let next = next_place places i k values c.loop-place-test.true refl l.invariant.below l.invariant.apart in
    let moved : get_or values k value.Null ≡ c.replace.result =
    taken values values k c.index_mut.result.now c.replace.result refl next.within c.index_mut.ensures.value
    c.replace.ensures.value in
    record {
      long = length-set values k w ∙ l.invariant.long;
      below = ap (λ n. list_all (is_below n) rest) (length-set values k w) ∙ next.below;
      apart = next.apart;
      left = ap (λ done. done ++ values_at rest (set values k w))
          (c.in_ok-push.ensures.ok ∙ ap (λ v. l.picked ++ v ∷ []) (sym moved))
          ∙ next.left w l.picked (values_at places c.args.row.values) l.invariant.left;
    }
