use Rattle.std.proofs.Common.{List, sym, ap, subst}
use Rattle.gob_branch.specs.ItemSpans.{row_made}
use Rattle.gob_meaning.specs.Fold.{Delivery, delivery_of}
use Rattle.gob_pipeline.specs.Made.{AddsTo}
use Rattle.gob_pipeline.proofs.Cuts.{adds_nothing}
use Rattle.gob_pipeline.proofs.tally.send_item.Goals as goal

pub returns-in-Killed-clause-ok : goal.returns-in-Killed-clause-ok
returns-in-Killed-clause-ok c =
    let i = c.args.item in
    let b = c.args.buffers.now in
    let none = ap (λ e. delivery_of (row_made i.branch i.place.now i.optional e i.record.now)) c.in-Killed.is in
    subst (λ (given : List Delivery). AddsTo b b given) (sym none) (adds_nothing b)
