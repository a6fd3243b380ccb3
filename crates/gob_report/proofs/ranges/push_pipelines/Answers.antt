use Rattle.std.proofs.Common.{◌≡◌, ◌++◌, ◌∙◌, subst, arith, rules}
use Rattle.std.specs.List.{enumerate_from, flat_map}
use Rattle.gob_ledger.specs.State.{State}
use Rattle.gob_texts.specs.Commands.{pipeline_line}
use Rattle.gob_report.proofs.Counts.{pipelines_pushed, taken_all}
use Rattle.gob_report.proofs.ranges.push_pipelines.Goals as goal

pub returns : goal.returns
returns c =
    let s : State = record {
      run = c.state.inside.run;
      pipelines = c.state.inside.pipelines;
      totals = c.state.inside.totals;
      parts = c.state.inside.marks;
    } in
    subst (λ (x : State). c.push_counted.new.into.items
    ≡ c.args.into.now.items ++ flat_map (λ p. pipeline_line x p.0) (enumerate_from 0 x.pipelines)) c.state.view_is
    (pipelines_pushed c.args.into.now.items c.push_counted.new.into.items s _ c.deref_mut.result.now
    c.in_ok-push_counted.ensures
    (c.as_slice.ensures.value ∙ (taken_all c.count_parts.new.counts _ c.in_ok-counts.counts.len
    (omega (arith, c.count_parts.auto.counts, c.deref_mut.ensures.len)) ∙ c.in_ok-count_parts.ensures))
    (search rules))
