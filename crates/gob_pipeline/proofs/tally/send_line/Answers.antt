use Rattle.std.proofs.Common.{List, sym, ap, subst}
use Rattle.gob_meaning.specs.Fold.{Delivery, line_deliveries}
use Rattle.gob_pipeline.specs.Made.{AddsTo}
use Rattle.gob_pipeline.specs.Taking.{line_of_end}
use Rattle.gob_pipeline.proofs.Cuts.{adds_nothing}
use Rattle.gob_pipeline.proofs.tally.send_line.Goals as goal

pub returns-in-Header-clause-ok : goal.returns-in-Header-clause-ok
returns-in-Header-clause-ok c =
    let b = c.args.buffers.now in
    let none = ap (λ e. line_deliveries (line_of_end e c.args.raw.now c.args.items.now)) c.in-Header.is in
    subst (λ (given : List Delivery). AddsTo b b given) (sym none) (adds_nothing b)
