use Rattle.std.proofs.Common.{◌≡◌, ℕ, not, ◌&&◌, nat_eq, ◌∷◌, [], ◌++◌, sym, ap, ◌∙◌, append_assoc}
use Rattle.std.proofs.Common.{append-nil, Bool, List, ◌-◌, length, length-append, take, map-id, arith}
use Rattle.std.proofs.lemmas.Bool.{ne_eqb}
use Rattle.std.specs.Str.{chars}
use Rattle.std.proofs.lemmas.Iterator.{YieldsList-from_chars}
use Rattle.std.proofs.lemmas.Iterator.Consumers.{YieldsList-end}
use Rattle.gob_props.specs.Properties.{goes_on, without_white_space}
use Rattle.gob_props.proofs.LogicalLemmas.{goes_on_more, goes_on_none, goes_on_trimmed, goes_on_some, without_last}
use Rattle.gob_props.proofs.LogicalLemmas.{part_whole, part_front}
use Rattle.gob_props.proofs.lines.push_part.Goals as goal

-- the backslashes were counted in the trimmed line
counted : (odd : Bool) (yielded trimmed' line : List ℕ) → odd ≡ goes_on yielded → yielded ≡ trimmed' →
    trimmed' ≡ without_white_space line → odd ≡ goes_on line
counted odd yielded trimmed' line is all front = is ∙ ap goes_on (all ∙ front) ∙ goes_on_trimmed line

pub loop-c-init : goal.loop-c-init
loop-c-init c = (sym (append-nil c.args.text.now.items), sym goes_on_none)

pub loop-c-preserved-then-c-eq92 : goal.loop-c-preserved-then-c-eq92
loop-c-preserved-then-c-eq92 c =
    let l = c.loop-c in
    let more = goes_on_more l.yielded c.in-Some.c in (
      c.in_ok-push.ensures.items ∙ ap (λ t. t ++ c.in-Some.c ∷ []) l.invariant.0
          ∙ append_assoc c.args.text.now.items l.yielded (c.in-Some.c ∷ []),
      sym (more ∙ ap (λ n. nat_eq n 92 && not (goes_on l.yielded)) c.if-c-eq92.true ∙ ap not (sym l.invariant.1)),
    )

pub loop-c-preserved : goal.loop-c-preserved
loop-c-preserved c =
    let l = c.loop-c in
    let more = goes_on_more l.yielded c.in-Some.c in
    let other = ne_eqb c.in-Some.c 92 c.if-c-eq92.false in (
      c.in_ok-push.ensures.items ∙ ap (λ t. t ++ c.in-Some.c ∷ []) l.invariant.0
          ∙ append_assoc c.args.text.now.items l.yielded (c.in-Some.c ∷ []),
      other ∙ sym (more ∙ ap (λ b. b && not (goes_on l.yielded)) other),
    )

pub returns-then-odd-clause-more : goal.returns-then-odd-clause-more
returns-then-odd-clause-more c =
    let end =
    YieldsList-end
    (YieldsList-from_chars c.trimmed.result.now c.trimmed.utf8 cc) c.loop-c.yielded _ c.loop-c.yielded_by _ _
    c.in-None.is c.next.ensures.steps in
    counted _ _ _ _ c.loop-c.invariant.1 (sym (map-id c.loop-c.yielded) ∙ end.0) c.trimmed.ensures

pub returns-else-odd-clause-more : goal.returns-else-odd-clause-more
returns-else-odd-clause-more c =
    let end =
    YieldsList-end
    (YieldsList-from_chars c.trimmed.result.now c.trimmed.utf8 cc) c.loop-c.yielded _ c.loop-c.yielded_by _ _
    c.in-None.is c.next.ensures.steps in
    counted _ _ _ _ c.loop-c.invariant.1 (sym (map-id c.loop-c.yielded) ∙ end.0) c.trimmed.ensures

pub returns-then-odd-clause-text : goal.returns-then-odd-clause-text
returns-then-odd-clause-text c =
    let l = c.loop-c in
    let end =
    YieldsList-end
    (YieldsList-from_chars c.trimmed.result.now c.trimmed.utf8 cc) l.yielded _ l.yielded_by _ _ c.in-None.is
    c.next.ensures.steps in
    let whole = sym (map-id l.yielded) ∙ end.0 ∙ c.trimmed.ensures in
    let more = counted _ _ _ _ l.invariant.1 (sym (map-id l.yielded) ∙ end.0) c.trimmed.ensures in
    let some = goes_on_some l.yielded (sym l.invariant.1 ∙ c.if-odd.true) in
    let there =
    c.pop.ensures.variant.1
    (omega (arith, some, ap length l.invariant.0, length-append c.args.text.now.items l.yielded)) in
    without_last c.args.text.now.items c.pop.new.self.items l.yielded c.pop.result
    (sym l.invariant.0 ∙ c.pop.ensures.items) some there
    ∙ ap (λ t. c.args.text.now.items ++ take (length t - 1) t) whole
    ∙ ap (λ t. c.args.text.now.items ++ t) (sym (part_front (chars c.args.line.now) (sym more ∙ c.if-odd.true)))

pub returns-else-odd-clause-text : goal.returns-else-odd-clause-text
returns-else-odd-clause-text c =
    let l = c.loop-c in
    let end =
    YieldsList-end
    (YieldsList-from_chars c.trimmed.result.now c.trimmed.utf8 cc) l.yielded _ l.yielded_by _ _ c.in-None.is
    c.next.ensures.steps in
    let whole = sym (map-id l.yielded) ∙ end.0 ∙ c.trimmed.ensures in
    let more = counted _ _ _ _ l.invariant.1 (sym (map-id l.yielded) ∙ end.0) c.trimmed.ensures in
    l.invariant.0 ∙ ap (λ t. c.args.text.now.items ++ t)
    (whole ∙ sym (part_whole (chars c.args.line.now) (sym more ∙ c.if-odd.false)))
