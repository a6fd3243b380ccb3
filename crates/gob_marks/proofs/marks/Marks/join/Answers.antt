use Rattle.std.proofs.Common.{◌≡◌, ◌∙◌, ◌≤◌, ◌<◌, List, ℕ, suc, ◌-◌, ap, sym, subst, refl, take, drop, length, arith}
use Rattle.std.proofs.Common.{length-drop}
use Rattle.std.proofs.lemmas.List.{take_all}
use Rattle.gob_ledger.specs.Marks.{InOrder, Marks, Span, Done, is_done}
use Rattle.gob_ledger.proofs.Ranges.{spans}
use Rattle.gob_marks.specs.Joined.{Fill, FillsFront, Joins}
use Rattle.gob_marks.specs.Places.{begun_by}
use Rattle.gob_marks.proofs.Joins.{fill-begun_none, fill-few, joins_from, joined_tiled, joined-done, order_drop}
use Rattle.gob_marks.proofs.marks.Marks.join.Goals as goal

pub returns-then-begun-eq0-clause-answer : goal.returns-then-begun-eq0-clause-answer
returns-then-begun-eq0-clause-answer c =
    let begun : begun_by c.args.range.lo (spans c.self.inside.done.items) ≡ c.done_begun_by-begun.result =
    sym (c.done_begun_by-begun.ensures.begun
    ∙ ap (λ (ds : List Done). begun_by c.range.inside.lo (spans ds)) c.as_slice.ensures.value
    ∙ ap (λ (s : Span). begun_by s.lo (spans c.self.inside.done.items)) c.range.view_is) in
    let finished = ap (λ (m : Marks). m.finished) c.self.view_is in (
      λ no. cc,
      λ f. absurd (fill-begun_none c.args.range c.self.inside.done.items c.self.invariant.finished
          (begun ∙ c.if-begun-eq0.true) (subst (Fill c.args.range) (sym finished) f)),
    )

rest_is : (k : ℕ) (ds : List Done) → take (length ds - k) (drop k ds) ≡ drop k ds
rest_is k ds = take_all (length ds - k) (drop k ds) (omega (arith, length-drop k ds))

pub filling-count-requires-clause-some : goal.filling-count-requires-clause-some
filling-count-requires-clause-some c =
    let k = c.done_begun_by-begun.result - 1 in
    subst (λ (ds : List Done). 0 < length ds) (sym (rest_is k c.deref.result.now))
    (omega (
      arith,
      length-drop k c.deref.result.now,
      c.deref.ensures.len,
      c.as_slice.ensures.len,
      c.done_begun_by-begun.ensures.within,
      c.if-begun-eq0.false,
    ))

pub filling-count-requires-clause-order : goal.filling-count-requires-clause-order
filling-count-requires-clause-order c =
    let k = c.done_begun_by-begun.result - 1 in
    subst (λ (ds : List Done). InOrder 0 (spans ds))
    (sym (rest_is k c.deref.result.now ∙ ap (drop k) c.deref.ensures.value))
    (order_drop k 0 c.self.inside.done.items c.self.invariant.finished)

pub returns-then-count-lt2-clause-answer : goal.returns-then-count-lt2-clause-answer
returns-then-count-lt2-clause-answer c =
    let k = c.done_begun_by-begun.result - 1 in
    let begun : begun_by c.args.range.lo (spans c.self.inside.done.items) ≡ c.done_begun_by-begun.result =
    sym (c.done_begun_by-begun.ensures.begun
    ∙ ap (λ (ds : List Done). begun_by c.range.inside.lo (spans ds)) c.as_slice.ensures.value
    ∙ ap (λ (s : Span). begun_by s.lo (spans c.self.inside.done.items)) c.range.view_is) in
    let last : begun_by c.args.range.lo (spans c.self.inside.done.items) ≡ suc k =
    omega (arith, begun, c.if-begun-eq0.false) in
    let front : FillsFront c.args.range (drop k c.self.inside.done.items) c.filling-count.result =
    subst (λ (ds : List Done). FillsFront c.args.range ds c.filling-count.result)
    (rest_is k c.deref.result.now ∙ ap (drop k) c.deref.ensures.value) c.filling-count.ensures in
    let finished = ap (λ (m : Marks). m.finished) c.self.view_is in (
      λ no. cc,
      λ f. absurd (fill-few c.args.range c.self.inside.done.items k c.filling-count.result
          c.self.invariant.finished last front c.if-count-lt2.true (subst (Fill c.args.range) (sym finished) f)),
    )

joins_here : (c : goal.After-make_one) → Joins c.args.range
    (record { next = c.self.inside.next; finished = c.self.inside.done.items; owed = c.self.inside.owed })
    (record { next = c.self.inside.next; finished = c.make_one.new.ranges.items; owed = c.self.inside.owed })
joins_here c =
    let m : Marks = record {
      next = c.self.inside.next;
      finished = c.self.inside.done.items;
      owed = c.self.inside.owed;
    } in
    let k = c.done_begun_by-begun.result - 1 in
    let front : FillsFront c.args.range (drop k c.self.inside.done.items) c.filling-count.result =
    subst (λ (ds : List Done). FillsFront c.args.range ds c.filling-count.result)
    (rest_is k c.deref.result.now ∙ ap (drop k) c.deref.ensures.value) c.filling-count.ensures in
    let several : 2 ≤ c.filling-count.result = omega (arith, c.if-count-lt2.false) in
    subst (λ (ds : List Done). Joins c.args.range m (record m { finished = ds })) (sym c.make_one.ensures)
    (joins_from m c.args.range k c.filling-count.result front several)

pub invariant_of-self : goal.invariant_of-self
invariant_of-self c =
    joined_tiled c.args.range (record {
      next = c.self.inside.next;
      finished = c.self.inside.done.items;
      owed = c.self.inside.owed;
    })
    (record {
      next = c.self.inside.next;
      finished = c.make_one.new.ranges.items;
      owed = c.self.inside.owed;
    }) c.self.invariant (joins_here c)

pub returns-clause-answer : goal.returns-clause-answer
returns-clause-answer c =
    let finished = ap (λ (m : Marks). m.finished) c.self.view_is in
    let j = joins_here c in (
      λ yes. subst (Fill c.args.range) finished j.parts,
      λ f. refl,
    )

pub returns-clause-joined : goal.returns-clause-joined
returns-clause-joined c = λ yes.
    subst (λ (m : Marks). Joins c.args.range m
    (record {
      next = c.self.inside.next;
      finished = c.make_one.new.ranges.items;
      owed = c.self.inside.owed;
    })) c.self.view_is (joins_here c)

pub returns-clause-covered : goal.returns-clause-covered
returns-clause-covered c = λ at.
    joined-done c.args.range (record {
      next = c.self.inside.next;
      finished = c.self.inside.done.items;
      owed = c.self.inside.owed;
    })
    (record {
      next = c.self.inside.next;
      finished = c.make_one.new.ranges.items;
      owed = c.self.inside.owed;
    }) c.self.invariant (joins_here c) at
    ∙ ap (is_done at) c.self.view_is
