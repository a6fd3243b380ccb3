use Rattle.std.proofs.Common.{◌≡◌, ◌∙◌, ◌+◌, ◌<◌, suc, ℕ, List, ◌++◌, take, drop, length, ap, sym, arith, length-drop}
use Rattle.std.specs.List.{remove}
use Rattle.std.proofs.lemmas.List.{drop-append-le, drop-drop, drop-take, length-take-le}
use Rattle.gob_ledger.specs.Marks.{Span}
use Rattle.gob_marks.proofs.open_ranges.take_out.Goals as goal

-- one more is gone
first_gone : (gone at : ℕ) (ss : List Span) → at ≡ 0 → drop (gone + 1) ss ≡ remove (drop gone ss) at
first_gone gone at ss first = sym (ap (remove (drop gone ss)) first ∙ drop-drop 1 gone ss)

-- one behind those that are gone
later_gone : (gone at : ℕ) (ss : List Span) → gone + at < length ss
    → drop gone (remove ss (gone + at)) ≡ remove (drop gone ss) at
later_gone gone at ss below =
    let count = length-take-le (gone + at) ss (omega (arith, below)) in
    let same : suc (gone + at) ≡ gone + suc at = omega arith in
    drop-append-le gone (take (gone + at) ss) (drop (suc (gone + at)) ss) (omega (arith, count))
    ∙ ap (λ us. us ++ drop (suc (gone + at)) ss) (drop-take gone at ss)
    ∙ ap (λ us. take at (drop gone ss) ++ us) (ap (λ n. drop n ss) same ∙ sym (drop-drop (suc at) gone ss))

pub returns-then-at-eq0-clause-left : goal.returns-then-at-eq0-clause-left
returns-then-at-eq0-clause-left c = first_gone c.args.gone c.args.at c.args.ranges.now.items c.if-at-eq0.true

pub returns-clause-left : goal.returns-clause-left
returns-clause-left c =
    let below : c.args.gone + c.args.at < length c.args.ranges.now.items =
    omega (arith, length-drop c.args.gone c.args.ranges.now.items, c.requires) in
    ap (drop c.args.gone) c.remove.ensures.items ∙ later_gone c.args.gone c.args.at c.args.ranges.now.items below
