use Rattle.std.proofs.Common.{◌≡◌, ◌∙◌, List, not, nat_lt, ap, sym, subst}
use Rattle.std.specs.List.{filter}
use Rattle.gob_ledger.specs.Marks.{Done, InOrder, Span}
use Rattle.gob_ledger.proofs.Ranges.{spans}
use Rattle.gob_segments.specs.Written.{begun_in, done_from}
use Rattle.gob_segments.proofs.Changed.{order_kept}
use Rattle.gob_segments.proofs.Later.{begun_in-is}
use Rattle.gob_segments.proofs.since.part_begun_in.Goals as goal

pub done_below-requires-2 : goal.done_below-requires-2
done_below-requires-2 c =
    let lo = c.range.inside.lo in
    subst (λ (ds : List Done). InOrder 0 (spans ds)) (sym (c.split_at.ensures.back ∙ c.done_below.ensures.back))
    (order_kept (λ d. not (nat_lt d.span.lo lo)) 0 c.args.after.now c.requires)

pub returns : goal.returns
returns c =
    let lo = c.range.inside.lo in
    let hi = c.range.inside.hi in
    let behind : c.split_at.result.1.now ≡ done_from lo c.args.after.now =
    c.split_at.ensures.back ∙ c.done_below.ensures.back in
    c.split_at-2.ensures.front ∙ c.done_below-2.ensures.front
    ∙ ap (filter (λ (d : Done). nat_lt d.span.lo hi)) behind
    ∙ begun_in-is (record { lo = lo; hi = hi }) c.args.after.now
    ∙ ap (λ (s : Span). begun_in s c.args.after.now) c.range.view_is
