use Rattle.std.proofs.Common.{◌≡◌, sym, subst, ◌∙◌, arith}
use Rattle.gob_ledger.specs.Spelling.{Proper}
use Rattle.gob_ledger.proofs.Losing.{empty_proper}
use Rattle.gob_state.proofs.NextLemmas.{empty_made, one_more_zero}
use Rattle.gob_state.proofs.next.empty_state.Goals as goal

pub loop-preserved : goal.loop-preserved
loop-preserved c = c.in_ok-push.ensures.ok ∙ one_more_zero c.loop.counter c.loop.counts c.loop.invariant

pub returns-clause-proper : goal.returns-clause-proper
returns-clause-proper c =
    let all : c.loop.counter ≡ c.args.branches = omega arith in
    λ some few. subst Proper
    (sym (empty_made c.args.branches c.loop.counter c.new.result c.loop.counts c.new-2.result all c.new.ensures
    c.loop.invariant c.new-2.ensures))
    (empty_proper c.args.branches some few)
