-- What is left begins with the item of the span that is looked at.
use Rattle.std.proofs.Common.{◌≡◌, ◌∙◌, ◌<◌, ◌≤◌, ◌+◌, ℕ, suc, sym, ap, refl, drop, length, get_or, arith, subst, List}
use Rattle.std.proofs.Common.{◌∷◌}
use Rattle.std.proofs.lemmas.List.{drop_all}
use Rattle.gob_meaning.specs.Items.{RowMade}
use Rattle.gob_meaning.specs.Fold.{first_kill}
use Rattle.gob_branch.specs.declared.items.ItemEnd.TheVariants.{Written}
use Rattle.gob_branch.specs.declared.items.Span.{Span}
use Rattle.gob_branch.specs.ItemSpans.{bytes_between, rows_made, span_made}
use Rattle.gob_branch.proofs.Spans.{rows_from, rows_length, is_killed, not_killed}
use Rattle.gob_branch.proofs.items.LineItems.first_kill.Goals as goal

no_span : Span
no_span = record { branch = 0; optional = 0; end = Written; place_start = 0; place_end = 0; record_end = 0 }

left_from : (bytes : List ℕ) (spans shown : List Span) (rows : List RowMade) (i : ℕ) → rows_made bytes spans ≡ rows →
    shown ≡ spans → i < length shown → drop i rows ≡ span_made bytes (get_or shown i no_span) ∷ drop (suc i) rows
unfolding no_span
left_from bytes spans shown rows i made same lt =
    let start : rows_made bytes shown ≡ rows = ap (rows_made bytes) same ∙ made in
    subst (λ l. drop i l ≡ span_made bytes (get_or shown i no_span) ∷ drop (suc i) l) start
    (rows_from bytes shown i no_span lt)

pub loop-span-init : goal.loop-span-init
loop-span-init c = refl

pub returns-in-Killed : goal.returns-in-Killed
unfolding no_span
returns-in-Killed c =
    let s = get_or c.deref-span-items.result.now c.loop-span.span-index no_span in
    let bytes = c.self.inside.bytes.items in
    let later = drop (suc c.loop-span.span-index) c.args.self.now in
    sym (c.loop-span.invariant ∙ ap first_kill (left_from bytes c.self.inside.spans.items c.deref-span-items.result.now
    c.args.self.now c.loop-span.span-index c.self.view_is c.deref-span-items.ensures.value c.loop-span-test.true)
    ∙ is_killed bytes s c.in-Killed.policy (first_kill later) c.in-Killed.is)

pub loop-span-preserved : goal.loop-span-preserved
unfolding no_span
loop-span-preserved c =
    let s = get_or c.deref-span-items.result.now c.loop-span.span-index no_span in
    let bytes = c.self.inside.bytes.items in
    let later = drop (suc c.loop-span.span-index) c.args.self.now in
    let next : suc c.loop-span.span-index ≡ c.loop-span.span-index + 1 = omega arith in
    c.loop-span.invariant ∙ ap first_kill (left_from bytes c.self.inside.spans.items c.deref-span-items.result.now
    c.args.self.now c.loop-span.span-index c.self.view_is c.deref-span-items.ensures.value c.loop-span-test.true)
    ∙ not_killed s.branch s.end (bytes_between s.place_end s.record_end bytes)
    (first_kill later) c.in_default.not-Killed
    ∙ ap (λ k. first_kill (drop k c.args.self.now)) next

pub returns : goal.returns
returns c =
    let long : length c.args.self.now ≤ c.loop-span.span-index =
    subst (λ l. length l ≤ c.loop-span.span-index) c.self.view_is
    (subst (λ n. n ≤ c.loop-span.span-index) (sym (rows_length c.self.inside.bytes.items c.self.inside.spans.items))
    (subst (λ l. length l ≤ c.loop-span.span-index) c.deref-span-items.ensures.value c.loop-span-test.false)) in
    sym (c.loop-span.invariant ∙ ap first_kill (drop_all c.loop-span.span-index c.args.self.now long))
