use Rattle.std.proofs.Common.{◌≡◌, ◌≤◌, ◌+◌, true, length, sym, ap, subst, ◌∙◌, arith}
use Rattle.gob_bytes.specs.Escapes.{AreBytes}
use Rattle.gob_meaning.specs.Plans.{is_fitting}
use Rattle.gob_task.specs.Task.{AreSpelled, TaskValue, unit_length}
use Rattle.gob_task.proofs.Begun.{few_branches, few_policies}
use Rattle.gob_task.proofs.Turns.{piece_done, taken_seen}
use Rattle.gob_task.proofs.task.Task.take.Goals as goal

pub stage-requires-clause-few : goal.stage-requires-clause-few
stage-requires-clause-few g c =
    let plan : c.rules.inside.pipeline ≡ c.args.rules.now.plan = ap (λ r. r.plan) c.rules.view_is in
    let few : length c.args.rules.now.plan.branches ≤ 8 =
    few_branches c.args.rules.now.plan (subst (λ p. is_fitting p ≡ true) plan c.plan-plan.ensures.fitting) in
    omega (arith, few, c.requires.slots, c.clear.ensures.slots, c.feed.ensures.buffers)

pub stage-requires-clause-spelled : goal.stage-requires-clause-spelled
stage-requires-clause-spelled g c =
    subst (λ p. AreSpelled p c.self.inside.unit c.self.inside.names)
    (sym (c.plan-plan.ensures.plan ∙ ap (λ r. r.plan) c.rules.view_is))
    (subst (λ (t : TaskValue). AreSpelled c.args.rules.now.plan t.unit t.names) (sym c.self.view_is)
    c.requires.stands.1.names)

pub judge-requires-clause-few : goal.judge-requires-clause-few
judge-requires-clause-few g c =
    few_policies c.plan-plan.result.now (ap is_fitting c.plan-plan.ensures.plan ∙ c.plan-plan.ensures.fitting)

pub returns-clause-taken : goal.returns-clause-taken
returns-clause-taken g c =
    let plan : c.rules.inside.pipeline ≡ c.args.rules.now.plan = ap (λ r. r.plan) c.rules.view_is in
    let few : length c.rules.inside.pipeline.branches ≤ 8 =
    few_branches c.rules.inside.pipeline c.plan-plan.ensures.fitting in
    let slots : length c.rules.inside.pipeline.branches ≡ length c.args.rules.now.plan.branches =
    ap (λ p. length p.branches) plan in
    let bytes = subst AreBytes (ap (λ t. t.unit.part) (sym c.self.view_is)) c.requires.bytes in
    let within : c.self.inside.machine.seen + length c.args.piece.now ≤ unit_length c.self.inside.unit =
    subst (λ t. t.machine.seen + length c.args.piece.now ≤ unit_length t.unit) (sym c.self.view_is) c.requires.few in
    taken_seen _ _ _ _ _ _ _ _ _ c.rules.view_is c.self.view_is (λ fed stands.
    piece_done _ _ _ _ _ fed c.args.piece.now c.clear.new.self c.feed.new.buffers _ _ c.judge.result
    c.plan-plan.result.now
    c.plan-plan.ensures.plan few bytes stands c.clear.ensures.empty c.in_ok-feed.ensures.ok c.feed.ensures.counts
    (omega (arith, few, slots, c.requires.slots, c.clear.ensures.slots, c.feed.ensures.buffers))
    c.in_ok-stage.ensures.slots c.stage.ensures.spelled c.in_ok-stage.ensures.appended within c.judge.ensures)
