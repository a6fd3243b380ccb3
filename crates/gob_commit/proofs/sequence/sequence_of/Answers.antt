use Rattle.std.proofs.Common.{◌≡◌, ◌∙◌, ◌++◌, ◌∷◌, List, map, ap, sym, subst}
use Rattle.gob_recovery.specs.Sequence.{CommitStep, WellFormed, move}
use Rattle.gob_history.specs.Laws.{group_steps, removes_of, staged_state}
use Rattle.gob_segments.specs.Changes.{change_value}
use Rattle.gob_seq.specs.Steps.{commit_step_of}
use Rattle.gob_commit.specs.Staged.{all_pairs}
use Rattle.gob_commit.proofs.Fitting.{in_order}
use Rattle.gob_commit.proofs.sequence.sequence_of.Goals as goal

pub unreachable-requires : goal.unreachable-requires
unreachable-requires c =
    let job = c.args.job.now in
    let change = change_value c.args.change.now in
    let all = c.in_ok-steps.ensures in
    let total : map commit_step_of c.push_state.new.steps ≡ group_steps job change all.sorted =
    c.in_ok-push_state.ensures
    ∙ ap (λ (ss : List CommitStep). ss ++ move (staged_state job) change.target ∷ removes_of change.removes) all.are in
    (rw c.in-None.is at c.in_ok-sequence.ensures)
    (subst (WellFormed job) (sym total)
    (in_order job change (all_pairs c.args.results.now) all.sorted c.requires.job all.moved c.requires.names
    c.requires.change).fits)

pub returns : goal.returns
returns c =
    let job = c.args.job.now in
    let change = change_value c.args.change.now in
    let all = c.in_ok-steps.ensures in
    let total : map commit_step_of c.push_state.new.steps ≡ group_steps job change all.sorted =
    c.in_ok-push_state.ensures
    ∙ ap (λ (ss : List CommitStep). ss ++ move (staged_state job) change.target ∷ removes_of change.removes) all.are in
    record {
      sorted = all.sorted;
      order = in_order job change (all_pairs c.args.results.now) all.sorted c.requires.job all.moved c.requires.names
          c.requires.change;
      are = (rw c.in-Some.is at c.in_ok-sequence.ensures).0 ∙ total;
    }
