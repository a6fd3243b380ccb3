-- The item is within the buffer, by the invariant of all.
use Rattle.std.proofs.Common.{◌∙◌, ◌<◌, sym, ap, ap₂, length, arith, subst, Some}
use Rattle.std.specs.List.{slice_get}
use Rattle.std.specs.Str.{IsUtf8}
use Rattle.gob_branch.specs.ItemSpans.{row_made, span_made}
use Rattle.gob_branch.proofs.Spans.{rows_length, within_of, made_at}
use Rattle.gob_branch.proofs.items.LineItems.get.Goals as goal

pub part-requires-clause-in_order : goal.part-requires-clause-in_order
part-requires-clause-in_order c =
    let w = within_of c.self.inside.bytes.items c.as_slice-bytes.result.now c.self.inside.spans.items c.args.self.now
    c.args.place
    c.index-span.result.now c.self.view_is c.self.invariant c.as_slice-bytes.ensures.value c.requires
    c.index-span.ensures in
    w.place

pub part-requires-clause-within : goal.part-requires-clause-within
part-requires-clause-within c =
    let w = within_of c.self.inside.bytes.items c.as_slice-bytes.result.now c.self.inside.spans.items c.args.self.now
    c.args.place
    c.index-span.result.now c.self.view_is c.self.invariant c.as_slice-bytes.ensures.value c.requires
    c.index-span.ensures in
    let a = w.placed in let b = w.end in omega arith

pub text_of-requires : goal.text_of-requires
text_of-requires c =
    let w = within_of c.self.inside.bytes.items c.as_slice-bytes.result.now c.self.inside.spans.items c.args.self.now
    c.args.place
    c.index-span.result.now c.self.view_is c.self.invariant c.as_slice-bytes.ensures.value c.requires
    c.index-span.ensures in
    subst IsUtf8 (sym c.part.ensures) w.text

pub part-requires-2-clause-in_order : goal.part-requires-2-clause-in_order
part-requires-2-clause-in_order c =
    let w = within_of c.self.inside.bytes.items c.as_slice-bytes.result.now c.self.inside.spans.items c.args.self.now
    c.args.place
    c.index-span.result.now c.self.view_is c.self.invariant c.as_slice-bytes.ensures.value c.requires
    c.index-span.ensures in
    w.placed

pub part-requires-2-clause-within : goal.part-requires-2-clause-within
part-requires-2-clause-within c =
    let w = within_of c.self.inside.bytes.items c.as_slice-bytes.result.now c.self.inside.spans.items c.args.self.now
    c.args.place
    c.index-span.result.now c.self.view_is c.self.invariant c.as_slice-bytes.ensures.value c.requires
    c.index-span.ensures in
    w.end

pub returns : goal.returns
returns c =
    let s = c.index-span.result.now in
    let lt : c.args.place < length c.self.inside.spans.items =
    subst (λ n. c.args.place < n) (rows_length c.self.inside.bytes.items c.self.inside.spans.items)
    (subst (λ l. c.args.place < length l) (sym c.self.view_is) c.requires) in
    ap (λ l. slice_get l c.args.place) (sym c.self.view_is)
    ∙ made_at c.self.inside.bytes.items c.self.inside.spans.items c.args.place s lt c.index-span.ensures
    ∙ ap (λ bytes. Some (span_made bytes s)) (sym c.as_slice-bytes.ensures.value)
    ∙ ap₂ (λ p r. Some (row_made s.branch p s.optional s.end r)) (sym (c.text_of.ensures ∙ c.part.ensures))
    (sym c.part-2.ensures)
