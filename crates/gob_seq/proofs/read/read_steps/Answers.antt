use Rattle.std.proofs.Common.{◌∙◌, ◌≡◌, ◌++◌, [], ◌∷◌, ap, sym, map, length, subst}
use Rattle.std.proofs.lemmas.List.{length-map, map-append}
use Rattle.gob_seq.specs.Reading.{last_line}
use Rattle.gob_seq.specs.Steps.{commit_step_of}
use Rattle.gob_seq.proofs.Lines.{ReadUpTo, all_read, one_read, shorter}
use Rattle.gob_seq.proofs.read.read_steps.Goals as goal

pub loop-steps-preserved : goal.loop-steps-preserved
loop-steps-preserved c =
    let more : map commit_step_of c.push.new.self ≡ map commit_step_of c.loop-steps.steps
    ++ commit_step_of c.in-Step.step ∷ [] =
    ap (map commit_step_of) c.in_ok-push-in-Step.ensures.ok ∙ map-append commit_step_of c.loop-steps.steps
    (c.in-Step.step ∷ []) in
    subst (ReadUpTo c.args.words.now c.take_line.new.words) (sym more)
    (one_read _ _ _ _ (commit_step_of c.in-Step.step) c.loop-steps.invariant (rw c.in-Step.is at c.in_ok-step.ensures))

pub loop-steps-smaller : goal.loop-steps-smaller
loop-steps-smaller c = shorter _ _ (commit_step_of c.in-Step.step) (rw c.in-Step.is at c.in_ok-step.ensures)

pub returns-then-take_end : goal.returns-then-take_end
returns-then-take_end c =
    let count : c.len.result ≡ length (map commit_step_of c.loop-steps.steps) = c.len.ensures ∙ sym
    (length-map c.loop-steps.steps commit_step_of) in
    all_read _ _ _ (map commit_step_of c.loop-steps.steps) c.loop-steps.invariant
    (rw c.in-NoStep.is at c.in_ok-step.ensures)
    (c.take_end.ensures.0 c.if-take_end.true ∙ ap last_line count)
