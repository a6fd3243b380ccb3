use Rattle.std.proofs.Common.{◌≡◌, get_or, sym, subst, arith}
use Rattle.gob_ledger.specs.Marks.{Span}
use Rattle.gob_state.proofs.WriteLemmas.{open_pushed}
use Rattle.gob_state.proofs.push.push_open_up_to.Goals as goal

pub loop-k-preserved : goal.loop-k-preserved
loop-k-preserved c =
    let range : Span = record { lo = c.range.inside.lo; hi = c.range.inside.hi } in record {
      pushed = open_pushed c.args.at _ c.loop-k.into.items _ _ c.args.open.now c.loop-k.k range c.loop-k-test.true
          (subst (λ (x : Span). x ≡ get_or c.args.open.now c.loop-k.k x) (sym c.range.view_is) c.index-open-k.is)
          c.if-range-at.false c.loop-k.invariant.pushed c.in_ok-push_numbered.ensures;
      within = omega arith;
    }
