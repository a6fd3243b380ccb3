use Rattle.std.proofs.Common.{◌≡◌, ◌++◌, ap, subst, ◌∙◌}
use Rattle.gob_ledger.specs.State.{State}
use Rattle.gob_ledger.specs.Spelling.{pipelines_text, state_spelling, version_2}
use Rattle.gob_state.proofs.WriteLemmas.{state_written}
use Rattle.gob_state.proofs.write.write_state.Goals as goal

pub returns : goal.returns
returns c =
    let s : State = record {
      run = c.state.inside.run;
      pipelines = c.state.inside.pipelines;
      totals = c.state.inside.totals;
      parts = c.state.inside.marks;
    } in
    subst (λ (x : State). c.from_vec.result ≡ state_spelling version_2 x) c.state.view_is
    (c.from_vec.ensures
    ∙ state_written s c.new-text.result.items _ _ _ _ _ _ c.new-text.ensures.items c.in_ok-push_numbered.ensures
    c.in_ok-push_numbered-2.ensures
    (c.in_ok-push_pipelines.ensures ∙ ap (λ ps. c.push_numbered-2.new.into.items
    ++ pipelines_text version_2 ps) c.as_slice.ensures)
    c.in_ok-push_totals.ensures c.in_ok-push_parts.ensures c.in_ok-extend_from_slice.ensures.items)
