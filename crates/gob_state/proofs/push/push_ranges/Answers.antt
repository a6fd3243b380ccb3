use Rattle.std.proofs.Common.{◌≡◌, get_or, sym, subst, ◌∙◌}
use Rattle.gob_ledger.specs.Marks.{Done}
use Rattle.gob_state.proofs.WriteLemmas.{done_pushed}
use Rattle.gob_state.proofs.push.push_ranges.Goals as goal

pub loop-i-preserved : goal.loop-i-preserved
loop-i-preserved c =
    let first : Done = record {
      span = record { lo = c.range.inside.lo; hi = c.range.inside.hi };
      pipeline = c.first.inside.pipeline;
    } in
    let same : first ≡ c.index-done-i.result =
    (λ j. record { span = c.range.view_is j; pipeline = c.first.inside.pipeline }) ∙ c.first.view_is in record {
      pushed = done_pushed _ c.loop-i.into.items c.push_open_up_to.new.into.items _ c.args.done.now c.args.open.now
          c.loop-i.i c.loop-i.k c.in_ok-k.k first c.loop-i-test.true
          (subst (λ (x : Done). x ≡ get_or c.args.done.now c.loop-i.i x) (sym same) c.index-done-i.is)
          c.requires.done c.requires.open c.loop-i.invariant.pushed c.in_ok-k.ensures.pushed c.in_ok-k.ensures.stop
          c.in_ok-push_numbered.ensures;
      within = c.in_ok-k.ensures.within;
    }
