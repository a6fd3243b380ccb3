use Rattle.std.proofs.Common.{◌≡◌, List, ◌∙◌, suc, ◌-◌, ap, sym, arith, nat_lt, get_or}
use Rattle.gob_ledger.specs.Marks.{Marks, Span, Done, is_done}
use Rattle.gob_ledger.proofs.Ranges.{spans}
use Rattle.gob_marks.specs.Places.{begun_by}
use Rattle.gob_marks.proofs.Places.{spans-get}
use Rattle.gob_marks.proofs.Tiles.{covers_none, covers_last}
use Rattle.gob_marks.proofs.marks.Marks.covers.Goals as goal

pub returns-then-begun-eq0 : goal.returns-then-begun-eq0
returns-then-begun-eq0 c =
    let m : Marks = record {
      next = c.self.inside.next;
      finished = c.self.inside.done.items;
      owed = c.self.inside.owed;
    } in
    let none : begun_by c.args.at (spans c.self.inside.done.items) ≡ 0 =
    ap (λ (ds : List Done). begun_by c.args.at (spans ds)) (sym c.as_slice.ensures.value)
    ∙ sym c.done_begun_by-begun.ensures.begun ∙ c.if-begun-eq0.true in
    sym (ap (is_done c.args.at) (sym c.self.view_is) ∙ covers_none c.args.at m c.self.invariant none)

pub returns : goal.returns
returns c =
    let m : Marks = record {
      next = c.self.inside.next;
      finished = c.self.inside.done.items;
      owed = c.self.inside.owed;
    } in
    let k = c.done_begun_by-begun.result - 1 in
    let r = c.index-last.result.now in
    let begun : begun_by c.args.at (spans c.self.inside.done.items) ≡ c.done_begun_by-begun.result =
    ap (λ (ds : List Done). begun_by c.args.at (spans ds)) (sym c.as_slice.ensures.value)
    ∙ sym c.done_begun_by-begun.ensures.begun in
    let some : begun_by c.args.at (spans c.self.inside.done.items) ≡ suc k =
    omega (arith, begun, c.if-begun-eq0.false) in
    let hi : c.range.inside.hi ≡ (get_or (spans c.self.inside.done.items) k r.span).hi =
    ap (λ (s : Span). s.hi) c.range.view_is ∙ ap (λ (d : Done). d.span.hi) c.last.view_is
    ∙ ap (λ (d : Done). d.span.hi) c.index-last.ensures
    ∙ ap (λ (s : Span). s.hi) (sym (spans-get c.self.inside.done.items k r)) in
    ap (nat_lt c.args.at) hi ∙ sym (covers_last c.args.at m k r.span c.self.invariant some)
    ∙ ap (is_done c.args.at) c.self.view_is
