use Rattle.std.proofs.Common.{◌≡◌, ◌+◌, ◌-◌, List, ℕ, [], ◌∷◌, ◌++◌, length, refl, sym, ap, ◌∙◌, arith, append_assoc}
use Rattle.std.proofs.lemmas.Bool.{eqb-true}
use Rattle.gob_pipeline.specs.Machine.{line_start}
use Rattle.gob_pipeline.specs.States.{state_value}
use Rattle.gob_pipeline.proofs.Feeding.{end_taken, no_items}
use Rattle.gob_pipeline.proofs.machine.State.take.Goals as goal

pub returns-then-is_empty-clause-ok : goal.returns-then-is_empty-clause-ok
returns-then-is_empty-clause-ok c =
    let old = c.args.self.now in
    let last = c.args.last.now in
    let long : old.line.len ≡ length old.line.items = old.line.ok.0 in
    let short : old.line.len ≡ 0 = eqb-true old.line.len 0 (sym c.is_empty.ensures ∙ c.if-is_empty.true) in
    let none : old.line.items ≡ [] = no_items old.line.items (sym long ∙ short) in
    let at = old.lo + c.saturating_sub.result in
    let start : at ≡ line_start (state_value old) = omega (arith, c.saturating_sub.ensures, c.len.ensures, long) in
    end_taken c.args.pipeline.now old _ last last at c.args.buffers.now c.take.new.buffers c.in_ok-take.ensures.ok
    (ap (λ l. l ++ last) (sym none)) start refl none

pub take-requires-2-clause-ends : goal.take-requires-2-clause-ends
take-requires-2-clause-ends c =
    let line = c.args.self.now.line.items in
    let one = c.requires.line in (
      line ++ one.0,
      c.as_slice.ensures.value ∙ c.in_ok-extend_from_slice.ensures.items ∙ ap (λ l. line ++ l) one.1
          ∙ sym (append_assoc line one.0 (10 ∷ [])),
    )

pub returns-clause-ok : goal.returns-clause-ok
returns-clause-ok c =
    let old = c.args.self.now in
    let long : old.line.len ≡ length old.line.items = old.line.ok.0 in
    let at = old.lo + c.saturating_sub.result in
    let start : at ≡ line_start (state_value old) = omega (arith, c.saturating_sub.ensures, c.len.ensures, long) in
    end_taken c.args.pipeline.now old _ c.args.last.now c.as_slice.result.now at c.args.buffers.now
    c.take-2.new.buffers c.in_ok-take-2.ensures.ok
    (c.as_slice.ensures.value ∙ c.in_ok-extend_from_slice.ensures.items) start refl c.clear.ensures.items
