use Rattle.std.proofs.Common.{◌≡◌, ◌∙◌, ◌≤◌, true, sym, ap, subst, arith, rules}
use Rattle.gob_device.specs.Names.{IsPathname}
use Rattle.gob_seq.specs.Steps.{is_callable, commit_step_of}
use Rattle.gob_seq.proofs.Losing.{can_more, is_first, not_lost, other_can}
use Rattle.gob_seq.proofs.Named.{callable_at, move_named}
use Rattle.gob_seq.proofs.steps.first_lost.Goals as goal
use Rattle.gob_seq.proofs.steps.first_lost.Goals.{in-Move+in_ok-is_lost+else-branch, in_default}

pub is_lost-requires : goal.is_lost-requires
is_lost-requires g c =
    let fits = subst (λ s. is_callable (commit_step_of s) ≡ true) c.in-Move.is
    (callable_at commit_step_of c.args.steps.now c.loop-step.step-index c.step-item.result (search rules) c.step-item.is
    c.requires.steps) in
    let named = move_named c.in-Move.from c.in-Move.to fits in
    record {
      named = (
        subst IsPathname (sym c.as_str-source.ensures) named.0,
        subst IsPathname (sym c.as_str.ensures)
            named.1,
      );
    }

pub returns-then-branch-clause-lost : goal.returns-then-branch-clause-lost
returns-then-branch-clause-lost g c =
    is_first c.args.steps.now c.loop-step.step-index c.step-item.result c.in-Move.from c.in-Move.to
    c.as_str-source.result.now c.as_str.result.now
    _ _ (search rules) c.step-item.is c.in-Move.is c.loop-step.invariant.same c.as_str-source.ensures c.as_str.ensures
    c.loop-step.invariant.can (rw c.if-branch.true at c.in_ok-is_lost.ensures.lost)

pub loop-step-preserved : goal.loop-step-preserved
loop-step-preserved g c = elim c.match-step.branch [
  | in-Move+in_ok-is_lost+else-branch w ↦ record {
    can = can_more c.args.steps.now c.loop-step.step-index c.step-item.result _ (search rules) c.step-item.is
        c.loop-step.invariant.can
        (not_lost c.step-item.result w.in-Move.from w.in-Move.to w.as_str-source.result.now w.as_str.result.now _ _
        w.in-Move.is
        c.loop-step.invariant.same w.as_str-source.ensures w.as_str.ensures
        (rw w.if-branch.false at w.in_ok-is_lost.ensures.lost));
    same = ap g.V.Volume.disk w.volume-is ∙ (w.is_lost.ensures.disk ∙ c.loop-step.invariant.same);
    goes_on =
        let more : g.V.Volume.faults c.args.volume.now ≤ g.V.Volume.faults w.is_lost.new.volume =
        omega (arith, c.loop-step.invariant.goes_on, w.is_lost.ensures.goes_on) in
        subst (λ v. g.V.Volume.faults c.args.volume.now ≤ g.V.Volume.faults v) (sym w.volume-is) more;
  }
  | in_default w ↦ record {
    can = can_more c.args.steps.now c.loop-step.step-index c.step-item.result _ (search rules) c.step-item.is
        c.loop-step.invariant.can
        (other_can c.step-item.result _ w.in_default.not-Move);
    same = ap g.V.Volume.disk w.volume-is ∙ c.loop-step.invariant.same;
    goes_on = subst (λ v. g.V.Volume.faults c.args.volume.now ≤ g.V.Volume.faults v) (sym w.volume-is)
        c.loop-step.invariant.goes_on;
  }
]
