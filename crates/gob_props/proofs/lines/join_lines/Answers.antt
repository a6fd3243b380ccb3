use Rattle.std.specs.Str.{chars}
use Rattle.gob_props.specs.Properties.{part_of, with_line}
use Rattle.std.proofs.Common.{refl, sym, [], ◌++◌, ℕ, ◌+◌, Bool, true, List, Option, Bor, ap, ◌∙◌, arith}
use Rattle.gob_props.specs.Steps.{later_lines, lines_left, most_lines}
use Rattle.gob_props.proofs.LogicalLemmas.{joined_more, later_none, later_done}
use Rattle.gob_props.proofs.lines.join_lines.Goals as goal

pub loop-more-init : goal.loop-more-init
loop-more-init c =
    let line = chars c.args.line.now in
    let text = c.in_ok-more.ensures.text ∙ ap (λ t. t ++ part_of line) c.new-text.ensures.items in (
      λ n.
          ap (λ (m : Bool). later_lines m (with_line (record { number = n; text = [] }) line) (n + 1)
          (lines_left c.args.after)) (sym c.in_ok-more.ensures.more)
          ∙ ap (λ (t : List ℕ). later_lines c.in_ok-more.more (record { number = n; text = t }) (n + 1)
          (lines_left c.args.after)) (sym text),
      omega arith,
      omega arith,
    )

pub returns-clause-joined : goal.returns-clause-joined
returns-clause-joined c =
    let l = c.loop-more in
    λ n. l.invariant.0 n ∙ later_done l.more (record { number = n; text = l.text.items }) (n + l.count)
    (lines_left l.left) c.loop-more-test.false

pub loop-more-preserved : goal.loop-more-preserved
loop-more-preserved c =
    let l = c.loop-more in
    let size = ap (λ (o : Option (Bor (List ℕ))). most_lines o) c.in-Some.is in
    let fewer = c.split_natural.ensures.fewer in (
      λ n.
          l.invariant.0 n
          ∙ ap (λ (m : Bool). later_lines m (record { number = n; text = l.text.items }) (n + l.count)
          (lines_left l.left)) c.loop-more-test.true
          ∙ ap (λ (o : Option (Bor (List ℕ))). later_lines true (record { number = n; text = l.text.items })
          (n + l.count) (lines_left o)) c.in-Some.is
          ∙ joined_more n l.count l.text.items _ _ _
          (chars c.split_natural.result.0.now) _ _ c.split_natural.ensures.lines c.in_ok-more-2.ensures.text refl
          c.in_ok-more-2.ensures.more,
      omega (arith, l.invariant.1),
      omega arith,
    )

pub returns-in_default-clause-joined : goal.returns-in_default-clause-joined
returns-in_default-clause-joined c =
    let l = c.loop-more in
    λ n.
    l.invariant.0 n
    ∙ ap (λ (m : Bool). later_lines m (record { number = n; text = l.text.items }) (n + l.count)
    (lines_left l.left)) c.loop-more-test.true
    ∙ ap (λ (o : Option (Bor (List ℕ))). later_lines true (record { number = n; text = l.text.items }) (n + l.count)
    (lines_left o)) c.in_default.is
    ∙ later_none (record { number = n; text = l.text.items }) (n + l.count)
