use Rattle.std.proofs.Common.{◌≡◌, true, drop}
use Rattle.std.specs.List.{list_all, list_any}
use Rattle.gob_plan.specs.Tests.{test_fits, test_holds}
use Rattle.gob_fork.proofs.placed.one_holds.Given as goal

abbrev pub invariant-loop-test : goal.invariant-loop-test
invariant-loop-test l = record {
  place : l.index ≡ l.test-index;
  fit : list_all (λ t. test_fits t l.columns) (drop l.test-index l.tests) ≡ true;
  left : list_any (λ t. test_holds t l.columns l.row) (drop l.test-index l.tests)
      ≡ list_any (λ t. test_holds t l.columns l.row) l.tests;
}
