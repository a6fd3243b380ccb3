use Rattle.std.proofs.Common.{◌≡◌, ◌++◌, ◌+◌, drop, sym, subst}
use Rattle.gob_meaning.specs.Sums.{branch_sums}
use Rattle.gob_state.proofs.NextLemmas.{one_summed_more}
use Rattle.gob_state.proofs.next.sum_branches.Goals as goal

pub loop-i-preserved : goal.loop-i-preserved
loop-i-preserved c =
    subst (λ sums. sums ++ branch_sums (drop (c.loop-i.i + 1) c.args.a.now) (drop (c.loop-i.i + 1) c.args.b.now)
    ≡ branch_sums c.args.a.now c.args.b.now) (sym c.in_ok-push.ensures.ok)
    (one_summed_more c.args.a.now c.args.b.now c.loop-i.sums _ c.loop-i.i c.sum_at.result c.sum_at.ensures
    c.loop-i.invariant)
