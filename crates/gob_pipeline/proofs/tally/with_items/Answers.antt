use Rattle.std.proofs.Common.{◌≡◌, ◌<◌, ◌+◌, true, false, nat_eq, drop, length, sym, ap, ◌∙◌, subst, arith, refl}
use Rattle.std.proofs.lemmas.Bool.{eq-eqb}
use Rattle.gob_plan.specs.declared.units.BranchCounts.{BranchCounts}
use Rattle.gob_branch.specs.ItemSpans.{item_value}
use Rattle.gob_pipeline.proofs.Counting.{Counting, counting_on, counting_past}
use Rattle.gob_pipeline.proofs.Sent.{got}
use Rattle.gob_pipeline.proofs.Targets.{apart}
use Rattle.gob_pipeline.proofs.tally.with_items.Goals as goal
use Rattle.gob_pipeline.proofs.tally.with_items.Goals.{then-from-branch, else-from-branch}

pub loop-place-preserved : goal.loop-place-preserved
loop-place-preserved c =
    let items = c.args.items.now in
    let place = c.loop-place.place in
    let made = c.loop-place.made in
    let branch = c.args.branch in
    let x = item_value c.get-item.result in
    let within : place < length items = omega arith in
    let is = got items place x c.get-item.ensures in
    let rest = drop (place + 1) items in
    elim c.if-from-branch.branch [
      | then-from-branch w ↦
          let here : nat_eq x.branch branch ≡ true =
          ap (λ n. nat_eq n branch) (sym c.from.ensures ∙ w.if-from-branch.true) ∙ eq-eqb branch branch refl in
          subst (λ (m : BranchCounts). Counting m branch rest items) (sym (w.made-is ∙ w.with_item-made.ensures))
          (counting_on made branch items place x within is here c.loop-place.invariant)
      | else-from-branch w ↦
          let other : nat_eq x.branch branch ≡ false =
          apart x.branch branch (λ e. w.if-from-branch.false (c.from.ensures ∙ e)) in
          subst (λ (m : BranchCounts). Counting m branch rest items) (sym w.made-is)
          (counting_past made branch items place x within is other c.loop-place.invariant)
    ]
