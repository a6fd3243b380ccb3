use Rattle.std.proofs.Common.{◌∙◌, ◌++◌, List, ℕ, map, ap, sym, append_assoc, rules}
use Rattle.std.specs.List.{flat_map}
use Rattle.std.proofs.lemmas.List.{take_all, length-map}
use Rattle.gob_recovery.specs.Sequence.{CommitStep, step_line}
use Rattle.gob_seq.specs.Steps.{commit_step_of}
use Rattle.gob_seq.proofs.Rows.{flat_more}
use Rattle.gob_seq.proofs.write.push_steps.Goals as goal

pub loop-step-preserved : goal.loop-step-preserved
loop-step-preserved c =
    let old = c.args.into.now.items in
    c.in_ok-push_step.ensures
    ∙ (ap (λ (x : List ℕ). x ++ step_line (commit_step_of c.step-item.result)) c.loop-step.invariant
    ∙ (append_assoc old _ _
    ∙ ap (λ (x : List ℕ). old ++ x) (sym (flat_more step_line c.args.steps.now c.loop-step.step-index c.step-item.result
    (search rules) c.step-item.is))))

pub returns : goal.returns
returns c =
    c.loop-step.invariant
    ∙ ap (λ (t : List CommitStep). c.args.into.now.items ++ flat_map step_line t)
    (take_all c.loop-step.step-index (map commit_step_of c.args.steps.now) (search (rules, length-map)))
