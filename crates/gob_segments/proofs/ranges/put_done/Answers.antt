use Rattle.std.proofs.Common.{ap, ◌∙◌}
use Rattle.gob_ledger.specs.Marks.{Done, Span}
use Rattle.gob_segments.proofs.PutLines.{cannot_put}
use Rattle.gob_segments.proofs.ranges.put_done.Goals as goal

pub returns-then-range-next-2-clause-refused : goal.returns-then-range-next-2-clause-refused
returns-then-range-next-2-clause-refused c = λ _ can.
    cannot_put c.args.from c.args.pipelines c.range.inside.lo c.next.result c.next-2.result c.args.marks.now c.args.done
    c.next.ensures.tiled c.next.ensures.next c.next-2.ensures.next
    (ap (λ (s : Span). s.lo) c.range.view_is ∙ ap (λ (d : Done). d.span.lo) c.done.view_is)
    c.if-range-next.false c.if-range-next-2.true can
