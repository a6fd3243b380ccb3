use Rattle.std.proofs.Common.{◌≡◌, true, drop, map, take}
use Rattle.std.specs.List.{list_all}
use Rattle.gob_plan.specs.Tests.{test_fits}
use Rattle.gob_rowcheck.specs.Places.{stand_at}
use Rattle.gob_rowcheck.proofs.lookup.test_places.Given as goal

abbrev pub invariant-loop-test : goal.invariant-loop-test
invariant-loop-test l = record {
  fit : list_all (λ t. test_fits t l.columns) (drop l.test-index l.tests) ≡ true;
  stand : stand_at (map (λ t. t.column) (take l.test-index l.tests)) l.columns l.places.items ≡ true;
}
