use Rattle.std.proofs.Common.{◌≡◌, ◌∙◌, ◌+◌, ◌++◌, List, [], cond, true, false, not, nat_lt, length, ap, sym}
use Rattle.std.proofs.Common.{subst, append-nil, unwrap_or, option_copied}
use Rattle.gob_ledger.specs.Marks.{InOrder, Marks, Done, Span, is_done}
use Rattle.gob_ledger.specs.Delta.{changed_marks}
use Rattle.gob_ledger.specs.Next.{no_marks}
use Rattle.gob_ledger.proofs.Ranges.{spans, order_filter}
use Rattle.gob_ledger.specs.Spelling.{part_text, version_2}
use Rattle.gob_segments.specs.Written.{new_done, new_open}
use Rattle.gob_segments.proofs.Changed.{changed_text-none, changed_text-some, marks_since, order_kept}
use Rattle.gob_segments.proofs.delta.push_change.Goals as goal

pub returns-then-is_unchanged : goal.returns-then-is_unchanged
returns-then-is_unchanged c =
    let b : Marks = unwrap_or (option_copied c.args.before) no_marks in
    let text = part_text version_2 (c.args.part.now, changed_marks b c.args.after.now) in
    sym (append-nil c.args.into.now.items)
    ∙ ap (λ v. c.args.into.now.items ++ cond v text []) (sym (c.is_unchanged.ensures c.if-is_unchanged.true))

pub returns-then-not-has_any : goal.returns-then-not-has_any
returns-then-not-has_any c =
    let b : Marks = unwrap_or (option_copied c.args.before) no_marks in
    let a = c.args.after.now in
    let d : c.as_slice.result.now ≡ new_done b a.finished =
    c.as_slice.ensures.value ∙ c.in_ok-done.ensures ∙ ap (new_done b) c.done.ensures.done in
    let o : c.as_slice-2.result.now ≡ new_open b.next a.owed =
    c.as_slice-2.ensures.value ∙ c.in_ok-owed.ensures
    ∙ ap (λ n. new_open n c.open_ranges.result.now) c.next_of-from.ensures.next
    ∙ ap (new_open b.next) c.open_ranges.ensures.open_ranges in
    let no : c.has_any.result ≡ false = cc in
    let none : nat_lt 0 (length (new_done b a.finished) + length (new_open b.next a.owed)) ≡ false =
    ap (λ (ds : List Done). nat_lt 0 (length ds + length (new_open b.next a.owed))) (sym d)
    ∙ ap (λ (os : List Span). nat_lt 0 (length c.as_slice.result.now + length os)) (sym o) ∙ sym c.has_any.ensures
    ∙ no in
    sym (append-nil c.args.into.now.items)
    ∙ ap (λ t. c.args.into.now.items ++ t)
    (sym (changed_text-none c.args.part.now b a c.requires c.next_of-from.ensures.tiled c.done.ensures.tiled none))

pub push_part-requires-clause-done : goal.push_part-requires-clause-done
push_part-requires-clause-done c =
    let b : Marks = unwrap_or (option_copied c.args.before) no_marks in
    let a = c.args.after.now in
    let d : c.as_slice-3.result.now ≡ new_done b a.finished =
    c.as_slice-3.ensures.value ∙ c.in_ok-done.ensures ∙ ap (new_done b) c.done.ensures.done in
    subst (λ (ds : List Done). InOrder 0 (spans ds)) (sym d)
    (order_kept (λ e. not (is_done e.span.lo b)) 0 a.finished c.done.ensures.tiled.finished)

pub push_part-requires-clause-open : goal.push_part-requires-clause-open
push_part-requires-clause-open c =
    let b : Marks = unwrap_or (option_copied c.args.before) no_marks in
    let a = c.args.after.now in
    let o : c.as_slice-4.result.now ≡ new_open b.next a.owed =
    c.as_slice-4.ensures.value ∙ c.in_ok-owed.ensures
    ∙ ap (λ n. new_open n c.open_ranges.result.now) c.next_of-from.ensures.next
    ∙ ap (new_open b.next) c.open_ranges.ensures.open_ranges in
    subst (InOrder 0) (sym o) (order_filter (λ s. not (nat_lt s.lo b.next)) 0 a.owed c.done.ensures.tiled.owed)

pub returns : goal.returns
returns c =
    let b : Marks = unwrap_or (option_copied c.args.before) no_marks in
    let a = c.args.after.now in
    let d : c.as_slice-3.result.now ≡ new_done b a.finished =
    c.as_slice-3.ensures.value ∙ c.in_ok-done.ensures ∙ ap (new_done b) c.done.ensures.done in
    let o : c.as_slice-4.result.now ≡ new_open b.next a.owed =
    c.as_slice-4.ensures.value ∙ c.in_ok-owed.ensures
    ∙ ap (λ n. new_open n c.open_ranges.result.now) c.next_of-from.ensures.next
    ∙ ap (new_open b.next) c.open_ranges.ensures.open_ranges in
    let d1 : c.as_slice.result.now ≡ new_done b a.finished =
    c.as_slice.ensures.value ∙ c.in_ok-done.ensures ∙ ap (new_done b) c.done.ensures.done in
    let o1 : c.as_slice-2.result.now ≡ new_open b.next a.owed =
    c.as_slice-2.ensures.value ∙ c.in_ok-owed.ensures
    ∙ ap (λ n. new_open n c.open_ranges.result.now) c.next_of-from.ensures.next
    ∙ ap (new_open b.next) c.open_ranges.ensures.open_ranges in
    let yes : c.has_any.result ≡ true = cc in
    let some : nat_lt 0 (length (new_done b a.finished) + length (new_open b.next a.owed)) ≡ true =
    ap (λ (ds : List Done). nat_lt 0 (length ds + length (new_open b.next a.owed))) (sym d1)
    ∙ ap (λ (os : List Span). nat_lt 0 (length c.as_slice.result.now + length os)) (sym o1)
    ∙ sym c.has_any.ensures ∙ yes in
    let same : record { next = c.next.result; finished = c.as_slice-3.result.now; owed = c.as_slice-4.result.now }
    ≡ marks_since b a =
    λ i. record { next = c.next.ensures.next i; finished = d i; owed = o i } in
    c.in_ok-push_part.ensures
    ∙ ap (λ (m : Marks). c.args.into.now.items ++ part_text version_2 (c.args.part.now, m)) same
    ∙ ap (λ t. c.args.into.now.items ++ t)
    (sym (changed_text-some c.args.part.now b a c.requires c.next_of-from.ensures.tiled c.done.ensures.tiled some))
