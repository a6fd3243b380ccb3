use Rattle.std.proofs.Common.{[], ◌∷◌, List, refl, true, sym, ap, subst, ◌∙◌, codes, lit≤, arith}
use Rattle.gob_plan.specs.declared.units.Unit.{Unit as WorkUnit}
use Rattle.gob_bytes.specs.Tables.{Table}
use Rattle.gob_ledger.specs.Marks.{Marks}
use Rattle.gob_ledger.specs.State.{State}
use Rattle.gob_ledger.specs.Units.{UnitsFit}
use Rattle.gob_state_tests.proofs.Fits.{one_fits}
use Rattle.gob_state_tests.proofs.commits.first_commit.Goals as goal

pub next_state-requires-clause-proper : goal.next_state-requires-clause-proper
next_state-requires-clause-proper c = c.in_ok-before.ensures.proper (lit≤ tt) (lit≤ tt)

pub next_state-requires-clause-fits : goal.next_state-requires-clause-fits
next_state-requires-clause-fits c =
    let u : WorkUnit = record { part = codes "a"; lo = 0; hi = 2; fresh = true; listed = true } in
    subst (λ (us : List WorkUnit). UnitsFit c.in_ok-before.before.parts us)
    (sym (c.as_slice.ensures ∙ c.in_ok-units.ensures))
    (subst (λ (t : Table Marks). UnitsFit t (u ∷ [])) (sym (ap (λ (s : State). s.parts) c.in_ok-before.ensures.empty))
    (one_fits u refl refl (omega arith)))
