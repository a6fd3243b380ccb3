use Rattle.std.proofs.Common.{ℕ, List, sym, ap, ◌∙◌, arith, inl, inr, ⊎_elim, Err}
use Rattle.gob_props.specs.Steps.{most_lines, read_line}
use Rattle.gob_props.proofs.EntryLemmas.{next_line, line_passed, line_joined, line_put, line_bad, reads_end, err_is}
use Rattle.gob_props.proofs.read.read_text.Goals as goal

pub loop-left-preserved-then-is_passed_over : goal.loop-left-preserved-then-is_passed_over
loop-left-preserved-then-is_passed_over c =
    let l = c.loop-left in
    let size = ap most_lines c.in-Some.is in
    let fewer = c.split_natural.ensures.fewer in
    record {
      meaning = line_passed l.props l.number _ _ _ (sym c.is_passed_over.ensures ∙ c.if-is_passed_over.true)
          (next_line l.props l.number _ c.split_natural.result.1 _ _ _ c.in-Some.is c.split_natural.ensures.lines
          l.invariant.meaning);
      few = omega (arith, l.invariant.few);
    }

pub returns-in_err-put_line : goal.returns-in_err-put_line
returns-in_err-put_line c =
    let l = c.loop-left in
    let next =
    next_line l.props l.number _ c.split_natural.result.1 _ _ _ c.in-Some.is c.split_natural.ensures.lines
    l.invariant.meaning in
    let joined = line_joined l.props l.number c.in_ok-text.field-0.count _ c.in_ok-text.field-0.text.items _ _ _
    (sym c.is_passed_over.ensures ∙ c.if-is_passed_over.false) (c.in_ok-text.ensures.joined l.number) next in
    let handed =
    err_is c.from_residual-in_err-put_line.result c.in_err-put_line.field-0.0 c.from_residual-in_err-put_line.ensures.1
    in
    ⊎_elim
    (λ memory. inl (handed ∙ ap Err memory))
    (λ bad. inr
    (handed ∙ sym
    (line_bad l.props (record { number = l.number; text = c.in_ok-text.field-0.text.items }) _ _
    (ap (λ (t : List ℕ). read_line l.props (record { number = l.number; text = t }))
    (sym c.deref.ensures.value) ∙ bad)) ∙ joined))
    c.in_err-put_line.ensures

pub loop-left-smaller : goal.loop-left-smaller
loop-left-smaller c =
    let size = ap most_lines c.in-Some.is in
    omega (arith, c.split_natural.ensures.fewer, c.in_ok-text.ensures.fewer, c.in_ok-text.ensures.some)

pub loop-left-preserved : goal.loop-left-preserved
loop-left-preserved c =
    let l = c.loop-left in
    let size = ap most_lines c.in-Some.is in
    let next =
    next_line l.props l.number _ c.split_natural.result.1 _ _ _ c.in-Some.is c.split_natural.ensures.lines
    l.invariant.meaning in
    record {
      meaning =
          sym (line_put l.props c.put_line.new.props
          (record { number = l.number; text = c.in_ok-text.field-0.text.items }) _
          (ap (λ (t : List ℕ). read_line l.props (record { number = l.number; text = t }))
          (sym c.deref.ensures.value) ∙ c.in_ok-put_line.ensures))
          ∙ line_joined l.props l.number c.in_ok-text.field-0.count _ c.in_ok-text.field-0.text.items _ _ _
          (sym c.is_passed_over.ensures ∙ c.if-is_passed_over.false) (c.in_ok-text.ensures.joined l.number) next;
      few = omega (arith, l.invariant.few, c.split_natural.ensures.fewer, c.in_ok-text.ensures.fewer);
    }

pub returns : goal.returns
returns c =
    let l = c.loop-left in
    inr (reads_end l.props l.number l.left _ c.in_default.is l.invariant.meaning)
