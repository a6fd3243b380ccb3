-- The item's parts are what the buffer grew by.
use Rattle.std.proofs.Common.{◌≡◌, ◌∙◌, ap, length, ◌++◌, ◌∷◌, [], subst}
use Rattle.std.specs.Str.{IsUtf8}
use Rattle.gob_branch.specs.declared.items.Span.{Span}
use Rattle.gob_branch.specs.ItemSpans.{item_value}
use Rattle.gob_branch.proofs.Spans.{PushedItem, pushed_item}
use Rattle.gob_branch.proofs.items.LineItems.push.Goals as goal

pushed_span : (c : goal.In_default-push) → Span
pushed_span c = record {
  branch = c.args.item.branch;
  optional = c.args.item.optional;
  end = c.args.item.end;
  place_start = c.len-start.result;
  place_end = c.len-place_end.result;
  record_end = c.len.result;
}

grown : (c : goal.In_default-push) → PushedItem c.self.inside.bytes.items c.args.item.place.now c.args.item.record.now
    c.self.inside.spans.items (pushed_span c) c.extend_from_slice-2.new.self.items c.push.new.self.items
unfolding pushed_span
grown c =
    let first : c.extend_from_slice.new.self.items ≡ c.self.inside.bytes.items ++ c.args.item.place.now =
    c.in_ok-extend_from_slice.ensures.items ∙ ap (λ l. c.self.inside.bytes.items ++ l) c.as_bytes.ensures.value in
    let second : c.extend_from_slice-2.new.self.items
    ≡ (c.self.inside.bytes.items ++ c.args.item.place.now) ++ c.args.item.record.now =
    c.in_default.ensures.items ∙ ap (λ l. l ++ c.args.item.record.now) first in
    pushed_item c.self.inside.bytes.items c.args.item.place.now c.args.item.record.now
    c.extend_from_slice-2.new.self.items c.self.inside.spans.items c.push.new.self.items (pushed_span c)
    c.self.invariant (subst IsUtf8 c.as_bytes.ensures.value c.as_bytes.ensures.utf8) second
    c.in_default-push.ensures.items
    (c.len-start.ensures ∙ c.self.inside.bytes.ok.0)
    (c.len-place_end.ensures ∙ c.extend_from_slice.new.self.ok.0 ∙ ap length first)
    (c.len.ensures ∙ c.extend_from_slice-2.new.self.ok.0 ∙ ap length second)

pub invariant_of-self-in_default-push : goal.invariant_of-self-in_default-push
invariant_of-self-in_default-push c = (grown c).within

pub returns-clause-ok : goal.returns-clause-ok
unfolding pushed_span
returns-clause-ok c = (grown c).made ∙ ap (λ l. l ++ item_value c.args.item ∷ []) c.self.view_is
