use Rattle.std.proofs.Common.{◌≡◌, sym, ap, subst, ◌∙◌}
use Rattle.std.specs.List.{list_any}
use Rattle.gob_ledger.specs.Next.{next_state}
use Rattle.gob_ledger.specs.State.{State}
use Rattle.gob_state.specs.Committed.{AllOwed, may_commit, parts_added, verdicts_in}
use Rattle.gob_state.proofs.NextLemmas.{length_verdicts, next_made, next_proper, run_is_owed, state_stays}
use Rattle.gob_state.proofs.next.next_state.Goals as goal

pub returns-then-not-is_any_allowed-clause-next : goal.returns-then-not-is_any_allowed-clause-next
returns-then-not-is_any_allowed-clause-next c =
    c.in_ok-same.ensures ∙ sym (state_stays c.args.before.now c.args.pipeline.now c.args.units.now c.args.results.now
    c.args.policy c.requires.counted
    (ap (λ a. list_any (may_commit c.args.policy a) (verdicts_in c.args.results.now)) (sym c.are_good-all.ensures)
    ∙ sym c.is_any_allowed.ensures ∙ c.if-not-is_any_allowed.true))

pub finish_units-requires-clause-owed : goal.finish_units-requires-clause-owed
finish_units-requires-clause-owed c =
    let added = c.in_ok-add_units.ensures ∙ ap (λ t. parts_added t c.args.units.now)
    (c.in_ok-marks.ensures ∙ ap (λ (s : State). s.parts) c.before-2.view_is) in
    subst (λ t. AllOwed t c.args.units.now) (sym added)
    (run_is_owed c.args.before.now c.args.units.now (verdicts_in c.args.results.now)
    (length_verdicts c.args.results.now ∙ c.requires.counted) c.requires.proper.tiled c.requires.fits)

pub returns-clause-next : goal.returns-clause-next
returns-clause-next c =
    let s : State = record {
      run = c.before-2.inside.run;
      pipelines = c.before-2.inside.pipelines;
      totals = c.before-2.inside.totals;
      parts = c.before-2.inside.marks;
    } in
    let made : State = record {
      run = c.next_run.result;
      pipelines = c.in_ok-pipelines.pipelines;
      totals = c.in_ok-totals.totals;
      parts = c.finish_units.new.marks;
    } in
    subst (λ (x : State). made ≡ next_state x c.args.pipeline.now c.args.units.now
    (verdicts_in c.args.results.now) c.args.policy)
    c.before-2.view_is
    (next_made s c.args.pipeline.now c.args.units.now c.args.results.now c.args.policy c.are_good-all.result
    c.is_any_allowed.result c.place_of-place.result c.next_run.result c.as_slice.result.now c.in_ok-pipelines.pipelines
    c.in_ok-totals.totals c.in_ok-marks.marks c.add_units.new.marks c.finish_units.new.marks c.requires.counted
    c.are_good-all.ensures c.is_any_allowed.ensures c.if-not-is_any_allowed.false c.as_slice.ensures
    c.place_of-place.ensures c.in_ok-pipelines.ensures c.in_ok-totals.ensures c.in_ok-marks.ensures
    c.in_ok-add_units.ensures c.in_ok-finish_units.ensures c.next_run.ensures)

pub returns-clause-proper : goal.returns-clause-proper
returns-clause-proper c = λ kept are few. next_proper c.args.before.now c.args.pipeline.now c.args.units.now
    c.args.results.now c.args.policy _ c.requires.proper c.requires.counted c.requires.fits kept are
    (returns-clause-next c) few
