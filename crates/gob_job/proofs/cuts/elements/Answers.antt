use Rattle.std.proofs.Common.{◌++◌, map, nat_eq, append-nil, sym, ap, ◌∙◌}
use Rattle.gob_jobs.specs.Words.{without_blanks}
use Rattle.gob_job.specs.Cuts.{pieces_left, texts_of}
use Rattle.gob_job.proofs.Elements.{no_bytes, none_empty, one_empty}
use Rattle.gob_job.proofs.cuts.elements.Goals as goal

pub returns-then-is_empty : goal.returns-then-is_empty
returns-then-is_empty c = no_bytes c.args.separator c.args.value.now _ (sym c.is_empty.ensures ∙ c.if-is_empty.true)
    (ap texts_of c.new-elements.ensures.items)

pub returns-then-is_empty-2 : goal.returns-then-is_empty-2
returns-then-is_empty-2 c =
    one_empty c.args.separator c.args.value.now (texts_of c.loop-left.elements.items) _ _
    (sym c.is_empty.ensures ∙ c.if-is_empty.false)
    (sym c.is_empty-in-Some.ensures ∙ c.if-is_empty-2.true)
    (c.loop-left.invariant.pieces ∙ ap (λ ps. texts_of c.loop-left.elements.items ++ map without_blanks ps)
    (ap (pieces_left (nat_eq c.args.separator)) c.in-Some.is ∙ c.split_piece.ensures.pieces))
    c.trimmed-element.ensures

pub returns : goal.returns
returns c =
    none_empty c.args.separator c.args.value.now (texts_of c.loop-left.elements.items)
    (sym c.is_empty.ensures ∙ c.if-is_empty.false)
    (c.loop-left.invariant.pieces ∙ (ap (λ o. texts_of c.loop-left.elements.items
    ++ map without_blanks (pieces_left (nat_eq c.args.separator) o)) c.in_default.is ∙ append-nil _))
    c.loop-left.invariant.some
