use Rattle.std.proofs.Common.{sym, ap, ◌∙◌, subst, take}
use Rattle.std.proofs.lemmas.List.{take-map}
use Rattle.gob_branch.specs.ItemSpans.{ItemsAreWithin, rows_made, span_made}
use Rattle.gob_branch.proofs.Spans.{within_take}
use Rattle.gob_branch.proofs.items.LineItems.truncate.Goals as goal

pub invariant_of-self : goal.invariant_of-self
invariant_of-self c =
    let bytes = c.self.inside.bytes.items in
    let spans = c.self.inside.spans.items in
    subst (ItemsAreWithin bytes) (sym c.truncate.ensures.items) (within_take bytes c.args.count spans c.self.invariant)

pub returns : goal.returns
returns c =
    let bytes = c.self.inside.bytes.items in
    let spans = c.self.inside.spans.items in
    ap (rows_made bytes) c.truncate.ensures.items ∙ sym (take-map (span_made bytes) c.args.count spans)
    ∙ ap (take c.args.count) c.self.view_is
