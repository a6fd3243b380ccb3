use Rattle.std.proofs.Common.{◌≡◌, true, drop, map, take}
use Rattle.std.specs.List.{list_all}
use Rattle.gob_plan.specs.Tests.{test_fits}
use Rattle.gob_rowcheck.specs.Places.{stand_at}
use Rattle.gob_rowcheck.proofs.lookup.policy_places.Given as goal

abbrev pub invariant-loop-policy : goal.invariant-loop-policy
invariant-loop-policy l = record {
  fit : list_all (λ p. test_fits p.test l.columns) (drop l.policy-index l.policies) ≡ true;
  stand : stand_at (map (λ p. p.test.column) (take l.policy-index l.policies)) l.columns l.places.items ≡ true;
}
