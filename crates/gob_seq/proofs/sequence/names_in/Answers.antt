use Rattle.std.proofs.Common.{◌∙◌, ◌++◌, List, ℕ, map, ap, sym, rules}
use Rattle.std.specs.List.{flat_map}
use Rattle.std.proofs.lemmas.List.{take_all, length-map}
use Rattle.gob_recovery.specs.Sequence.{CommitStep, names_in}
use Rattle.gob_seq.specs.Steps.{commit_step_of}
use Rattle.gob_seq.proofs.Rows.{flat_more}
use Rattle.gob_seq.proofs.sequence.names_in.Goals as goal

pub loop-step-preserved : goal.loop-step-preserved
loop-step-preserved c =
    c.in_ok-push_names.ensures
    ∙ (ap (λ (x : List (List ℕ)). x ++ names_in (commit_step_of c.step-item.result)) c.loop-step.invariant
    ∙ sym (flat_more names_in c.args.steps.now c.loop-step.step-index c.step-item.result (search rules) c.step-item.is))

pub returns : goal.returns
returns c =
    c.loop-step.invariant
    ∙ ap (λ (t : List CommitStep). flat_map names_in t)
    (take_all c.loop-step.step-index (map commit_step_of c.args.steps.now) (search (rules, length-map)))
