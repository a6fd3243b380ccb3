use Rattle.std.proofs.Common.{◌≡◌, ◌∙◌, List, true, false, ap, sym, subst}
use Rattle.std.specs.List.{insert, list_any}
use Rattle.gob_ledger.specs.Marks.{Marks, Span, Done, Tiled}
use Rattle.gob_ledger.specs.Next.{with_done}
use Rattle.gob_ledger.specs.Units.{same_span}
use Rattle.gob_ledger.proofs.Ranges.{spans}
use Rattle.gob_marks.specs.Places.{begun_by}
use Rattle.gob_marks.proofs.Places.{any-begun_none}
use Rattle.gob_marks.proofs.Tiles.{after_commit, not_owed}
use Rattle.gob_marks.proofs.marks.Marks.commit.Goals as goal

pub returns-then-begun-eq0-clause-answer : goal.returns-then-begun-eq0-clause-answer
returns-then-begun-eq0-clause-answer c =
    let begun : begun_by c.args.range.lo c.self.inside.owed ≡ c.open_begun_by-begun.result =
    sym (c.open_begun_by-begun.ensures.begun ∙ ap (begun_by c.range.inside.lo) c.as_slice.ensures.value
    ∙ ap (λ (s : Span). begun_by s.lo c.self.inside.owed) c.range.view_is) in
    sym (ap (λ (m : Marks). list_any (same_span c.args.range) m.owed) (sym c.self.view_is)
    ∙ any-begun_none c.args.range 0 c.self.inside.owed c.self.invariant.owed (begun ∙ c.if-begun-eq0.true))

pub returns-then-not-same_range-clause-answer : goal.returns-then-not-same_range-clause-answer
returns-then-not-same_range-clause-answer c =
    let m : Marks = record {
      next = c.self.inside.next;
      finished = c.self.inside.done.items;
      owed = c.self.inside.owed;
    } in
    let begun : begun_by c.args.range.lo c.self.inside.owed ≡ c.open_begun_by-begun.result =
    sym (c.open_begun_by-begun.ensures.begun ∙ ap (begun_by c.range.inside.lo) c.as_slice.ensures.value
    ∙ ap (λ (s : Span). begun_by s.lo c.self.inside.owed) c.range.view_is) in
    let differs : same_span c.args.range c.at.result ≡ false =
    let same : c.same_range.result ≡ same_span c.args.range c.at.result = c.same_range.ensures in cc in
    sym (ap (λ (n : Marks). list_any (same_span c.args.range) n.owed) (sym c.self.view_is)
    ∙ not_owed m c.args.range c.at.result c.open_begun_by-begun.result c.self.invariant begun c.if-begun-eq0.false
    c.at.ensures differs)

after : (c : goal.After-remove)
    → (record { next = c.self.inside.next; finished = c.insert.new.self.items; owed = c.remove.new.self }
    ≡ with_done c.args.pipeline c.args.range
    (record { next = c.self.inside.next; finished = c.self.inside.done.items; owed = c.self.inside.owed }))
    × Tiled (with_done c.args.pipeline c.args.range
    (record { next = c.self.inside.next; finished = c.self.inside.done.items; owed = c.self.inside.owed }))
after c =
    let m : Marks = record {
      next = c.self.inside.next;
      finished = c.self.inside.done.items;
      owed = c.self.inside.owed;
    } in
    let begun : begun_by c.args.range.lo c.self.inside.owed ≡ c.open_begun_by-begun.result =
    sym (c.open_begun_by-begun.ensures.begun ∙ ap (begun_by c.range.inside.lo) c.as_slice.ensures.value
    ∙ ap (λ (s : Span). begun_by s.lo c.self.inside.owed) c.range.view_is) in
    let place : c.done_begun_by-place.result ≡ begun_by c.args.range.lo (spans c.self.inside.done.items) =
    c.done_begun_by-place.ensures.begun
    ∙ ap (λ (ds : List Done). begun_by c.range-2.inside.lo (spans ds)) c.as_slice-2.ensures.value
    ∙ ap (λ (s : Span). begun_by s.lo (spans c.self.inside.done.items)) c.range-2.view_is in
    let same : same_span c.args.range c.at.result ≡ true =
    let is : c.same_range.result ≡ same_span c.args.range c.at.result = c.same_range.ensures in cc in
    let inserted : c.insert.new.self.items ≡ insert c.self.inside.done.items c.done_begun_by-place.result
    (record { span = c.args.range; pipeline = c.args.pipeline }) = c.in_ok-insert.ensures.items in
    after_commit m c.args.range c.at.result c.args.pipeline c.open_begun_by-begun.result c.done_begun_by-place.result
    c.insert.new.self.items c.remove.new.self
    c.self.invariant begun c.if-begun-eq0.false c.at.ensures same place inserted c.remove.ensures

pub invariant_of-self-2 : goal.invariant_of-self-2
invariant_of-self-2 c = let r = after c in subst Tiled (sym r.0) r.1

pub returns-clause-committed : goal.returns-clause-committed
returns-clause-committed c = λ yes. (after c).0 ∙ ap (with_done c.args.pipeline c.args.range) c.self.view_is
